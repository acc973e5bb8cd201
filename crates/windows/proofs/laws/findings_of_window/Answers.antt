use Rattle.windows.proofs.ShownLemmas.{all_shown}
use Rattle.windows.proofs.laws.findings_of_window.Goals as goal

pub returns : goal.returns
returns c = λ t rising evidence before seen after is w shown. all_shown t evidence rising before seen after is w shown
