use Rattle.carry_laws.proofs.OnwardLemmas.{onward}
use Rattle.carry_laws.proofs.laws.stands_on.Goals as goal

pub returns : goal.returns
returns c = λ known n p t u x y goes s within a. onward known p t u x y goes s within a
