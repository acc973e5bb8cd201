use Rattle.slice_yard.proofs.Moves.{takes, has_all}
use Rattle.slice_yard.proofs.lane.Lane.next.Goals as goal

pub pop_as-requires-clause-fifo : goal.pop_as-requires-clause-fifo
pop_as-requires-clause-fifo c = λ _. takes _ _ c.args.self.now.live (c.args.self.now.nothing_left_over c.if-self.false)

pub pop_as-requires-clause-empty : goal.pop_as-requires-clause-empty
pop_as-requires-clause-empty c = has_all _ _ c.args.self.now.live (c.args.self.now.nothing_left_over c.if-self.false)
