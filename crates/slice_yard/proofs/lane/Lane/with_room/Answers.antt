use Rattle.slice_yard.proofs.Moves.{begins}
use Rattle.slice_yard.proofs.lane.Lane.with_room.Goals as goal

pub fifo_as-requires : goal.fifo_as-requires
fifo_as-requires c = begins
