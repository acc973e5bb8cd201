use Rattle.std.proofs.Common.{◌≡◌, ◌+◌, ◌++◌, ℕ, map}
use Rattle.std.specs.Prelude.{sum_by}
use Rattle.slice_yard.specs.declared.slices.Slice.{Slice}
use Rattle.slice_yard.specs.declared.lane.Lane.{Lane}
use Rattle.slice_yard.specs.Shared.{lists_sum, thieves_sum}
use Rattle.std.specs.Vec.Iter.{into_iter_items}
use Rattle.slice_yard.specs.Lane.{LanePlace, lane_state, lane_hand}
use Rattle.slice_core.specs.Named.{named_from}
use Rattle.slice_yard.specs.Yard.{lists_of, with_lists}
use Rattle.slice_yard.proofs.yard.absorb_all.Given as goal

abbrev pub invariant-loop-thief : goal.invariant-loop-thief
invariant-loop-thief l = record {
  lanes : (f : ℕ → LanePlace) (n : ℕ) → map lane_state l.initial.lanes ≡ named_from f 0 n
      → map lane_state l.lanes ≡ named_from (λ k. ((f k).0, with_lists (lists_of k l.yielded) (f k).1)) 0 n;
  sums : (h : Slice → ℕ) → sum_by (λ (x : Lane). lists_sum h (lane_hand x)) l.lanes ≡ sum_by (λ (x : Lane). lists_sum h (lane_hand x)) l.initial.lanes + thieves_sum h l.yielded;
  all : l.fn.thieves.items ≡ l.yielded ++ into_iter_items l.thief-iterator;
}
