use Rattle.strata.proofs.LeastRelation.{least_at_law}
use Rattle.strata.proofs.laws.least_of_each_stratum.Goals as goal

pub returns : goal.returns
returns c = least_at_law
