use Rattle.carry.proofs.Opened.{carry_takes}
use Rattle.carry.proofs.laws.read_is_written.Goals as goal

pub returns : goal.returns
returns c = carry_takes
