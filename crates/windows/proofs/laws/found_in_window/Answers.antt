use Rattle.windows.proofs.WindowLemmas.{found_law}
use Rattle.windows.proofs.laws.found_in_window.Goals as goal

pub returns : goal.returns
returns c = found_law
