use Rattle.slice_yard.proofs.Moves.{seats}
use Rattle.slice_yard.proofs.lane.Lane.thief.Goals as goal

pub another-pass-requires : goal.another-pass-requires
another-pass-requires c = seats _ _ c.args.self.now.live c.args.self.now.owner (c.args.self.now.nothing_left_over c.requires.open)
