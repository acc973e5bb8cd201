use Rattle.windows.proofs.ShownLemmas.{part_shown}
use Rattle.windows.proofs.laws.findings_of_part_of_window.Goals as goal

pub returns : goal.returns
returns c = λ t rising evidence before seen after is w shown. part_shown t evidence rising before seen after is w shown
