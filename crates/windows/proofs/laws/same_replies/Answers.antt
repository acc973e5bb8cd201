use Rattle.windows.proofs.CutLemmas.{same_replies_law}
use Rattle.windows.proofs.laws.same_replies.Goals as goal

pub returns : goal.returns
returns c = same_replies_law
