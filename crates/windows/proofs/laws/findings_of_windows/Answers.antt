use Rattle.windows.proofs.ShownLemmas.{together}
use Rattle.windows.proofs.laws.findings_of_windows.Goals as goal

pub returns : goal.returns
returns c = λ t rising evidence. together t evidence rising
