use Rattle.strata.proofs.Rounds.{closed_law}
use Rattle.strata.proofs.laws.closed.Goals as goal

pub returns : goal.returns
returns c = closed_law
