use Rattle.refusal_laws.proofs.Parts.{leftmost_of_fact}
use Rattle.refusal_laws.proofs.laws.leftmost_part_of_fact.Goals as goal

pub returns : goal.returns
returns c = λ text f. leftmost_of_fact text f
