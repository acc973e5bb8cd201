use Rattle.carry_laws.proofs.HandedLemmas.{handed_on_law}
use Rattle.carry_laws.proofs.laws.handed_on.Goals as goal

pub returns : goal.returns
returns c = handed_on_law
