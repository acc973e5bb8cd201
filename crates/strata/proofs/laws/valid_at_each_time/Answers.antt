use Rattle.strata.proofs.ValidStrata.{valid_at_each_time_law}
use Rattle.strata.proofs.laws.valid_at_each_time.Goals as goal

pub returns : goal.returns
returns c = valid_at_each_time_law
