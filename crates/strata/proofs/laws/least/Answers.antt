use Rattle.strata.proofs.LeastRelation.{least_law}
use Rattle.strata.proofs.laws.least.Goals as goal

pub returns : goal.returns
returns c = least_law
