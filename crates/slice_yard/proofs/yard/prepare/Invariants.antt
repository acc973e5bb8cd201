use Rattle.std.proofs.Common.{◌≡◌, All, map}
use Rattle.slice_core.specs.Named.{named_from}
use Rattle.slice_yard.specs.Lane.{lane_deque}
use Rattle.slice_yard.specs.Yard.{thief_lanes, post_lanes, IsPostOf}
use Rattle.slice_yard.proofs.yard.prepare.Given as goal

abbrev pub invariant-loop-worker : goal.invariant-loop-worker
invariant-loop-worker l = record {
  lanes : map post_lanes l.posts.items ≡ named_from (thief_lanes l.lanes) 0 l.worker;
  fits : All (IsPostOf (map lane_deque l.owners.items)) l.posts.items;
}
