use Rattle.carry.proofs.Opened.{carry_again}
use Rattle.carry.proofs.laws.written_is_read.Goals as goal

pub returns : goal.returns
returns c = carry_again
