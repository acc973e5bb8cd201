use Rattle.windows.proofs.WholeLemmas.{whole_law}
use Rattle.windows.proofs.laws.whole_is_window.Goals as goal

pub returns : goal.returns
returns c = whole_law
