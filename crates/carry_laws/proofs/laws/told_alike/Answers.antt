use Rattle.carry_laws.proofs.AlikeLemmas.{told_alike_law}
use Rattle.carry_laws.proofs.laws.told_alike.Goals as goal

pub returns : goal.returns
returns c = told_alike_law
