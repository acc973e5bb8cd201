use Rattle.windows.proofs.SettledLemmas.{settled_law}
use Rattle.windows.proofs.laws.settled_stays.Goals as goal

pub returns : goal.returns
returns c = settled_law
