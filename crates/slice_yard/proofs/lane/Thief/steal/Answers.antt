use Rattle.slice_yard.proofs.Moves.{takes}
use Rattle.slice_yard.proofs.lane.Thief.steal.Goals as goal

pub steal_as-requires-clause-takes : goal.steal_as-requires-clause-takes
steal_as-requires-clause-takes c = takes _ _ c.loop.self.live c.loop.self.nothing_left_over
