use Rattle.windows.proofs.CutLemmas.{same_in_window_law}
use Rattle.windows.proofs.laws.same_in_window.Goals as goal

pub returns : goal.returns
returns c = same_in_window_law
