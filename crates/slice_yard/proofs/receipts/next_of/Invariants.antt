use Rattle.std.proofs.Common.{◌≡◌, ◌<◌, ℕ, All, get_or, map}
use Rattle.slice_yard.specs.declared.lane.Lane.{Lane}
use Rattle.slice_yard.specs.Lane.{lane_hand, IsEnded}
use Rattle.slice_yard.specs.Shared.{IsSpent}
use Rattle.slice_yard.proofs.receipts.next_of.Given as goal

abbrev pub invariant-loop-lane : goal.invariant-loop-lane
invariant-loop-lane l = record {
  hands : map lane_hand l.lanes ≡ map lane_hand l.initial.lanes;
  ended : All IsEnded l.lanes;
  spent : (k : ℕ) (d : Lane) → k < l.lane-index → IsSpent (lane_hand (get_or l.initial.lanes k d));
}
