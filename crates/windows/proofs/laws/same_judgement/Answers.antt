use Rattle.windows.proofs.AlikeLemmas.{judged_alike_law}
use Rattle.windows.proofs.laws.same_judgement.Goals as goal

pub returns : goal.returns
returns c = judged_alike_law
