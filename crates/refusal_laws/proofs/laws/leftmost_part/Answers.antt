use Rattle.refusal_laws.proofs.Parts.{leftmost}
use Rattle.refusal_laws.proofs.laws.leftmost_part.Goals as goal

pub returns : goal.returns
returns c = λ text f. leftmost text f
