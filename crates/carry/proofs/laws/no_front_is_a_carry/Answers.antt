use Rattle.carry.proofs.Opened.{no_front}
use Rattle.carry.proofs.laws.no_front_is_a_carry.Goals as goal

pub returns : goal.returns
returns c = no_front
