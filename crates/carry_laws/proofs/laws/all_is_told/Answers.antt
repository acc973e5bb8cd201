use Rattle.carry_laws.proofs.AlikeLemmas.{all_told_law}
use Rattle.carry_laws.proofs.laws.all_is_told.Goals as goal

pub returns : goal.returns
returns c = all_told_law
