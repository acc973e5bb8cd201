use Rattle.slice_yard.proofs.Moves.{opens}
use Rattle.slice_yard.proofs.lane.Lane.put.Goals as goal

pub push_as-requires-clause-pushes : goal.push_as-requires-clause-pushes
push_as-requires-clause-pushes c = opens _ _ _ c.args.self.now.live c.requires.alone
