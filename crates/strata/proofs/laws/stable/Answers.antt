use Rattle.strata.proofs.Rounds.{stable_law}
use Rattle.strata.proofs.laws.stable.Goals as goal

pub returns : goal.returns
returns c = stable_law
