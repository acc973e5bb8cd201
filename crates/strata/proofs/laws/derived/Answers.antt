use Rattle.strata.proofs.LeastRelation.{derived_law}
use Rattle.strata.proofs.laws.derived.Goals as goal

pub returns : goal.returns
returns c = derived_law
