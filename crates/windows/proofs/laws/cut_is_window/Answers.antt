use Rattle.windows.proofs.CutLemmas.{cut_law}
use Rattle.windows.proofs.laws.cut_is_window.Goals as goal

pub returns : goal.returns
returns c = cut_law
