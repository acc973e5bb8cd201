use Rattle.std.proofs.Common.{◌≡◌, ◌<◌, ℕ, get_or, map}
use Rattle.slice_yard.specs.declared.lane.Lane.{Lane}
use Rattle.slice_yard.specs.Lane.{lane_hand, IsEnded}
use Rattle.slice_yard.proofs.receipts.end_all.Given as goal

abbrev pub invariant-loop-lane : goal.invariant-loop-lane
invariant-loop-lane l = record {
  hands : map lane_hand l.lanes ≡ map lane_hand l.initial.lanes;
  ended : (k : ℕ) (d : Lane) → k < l.lane-index → IsEnded (get_or l.lanes k d);
}
