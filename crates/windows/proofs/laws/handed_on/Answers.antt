use Rattle.windows.proofs.CutLemmas.{handed_on_law}
use Rattle.windows.proofs.laws.handed_on.Goals as goal

pub returns : goal.returns
returns c = handed_on_law
