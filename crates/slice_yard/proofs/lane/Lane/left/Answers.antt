use Rattle.slice_yard.proofs.Moves.{drains, shared}
use Rattle.std.proofs.Common.{arith}
use Rattle.slice_yard.proofs.lane.Lane.left.Goals as goal

pub pop_as-requires-clause-fifo : goal.pop_as-requires-clause-fifo
pop_as-requires-clause-fifo c = λ _. drains _ _ c.args.self.now.live (c.args.self.now.all_joined c.requires)

pub pop_as-requires-clause-empty : goal.pop_as-requires-clause-empty
pop_as-requires-clause-empty c = let w = c.args.self.now.all_joined c.requires in shared _ _ c.args.self.now.live (omega arith) w
