use Rattle.slice_yard.proofs.Moves.{merges}
use Rattle.slice_yard.proofs.lane.Lane.absorb.Goals as goal

pub absorb-requires-clause-rule : goal.absorb-requires-clause-rule
absorb-requires-clause-rule c =
    merges _ _ _ _ c.args.self.now.live c.args.self.now.owner (c.args.self.now.nothing_left_over c.requires.open) c.args.thief.live c.requires.seat
