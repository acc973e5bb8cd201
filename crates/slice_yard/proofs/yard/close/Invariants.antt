use Rattle.std.proofs.Common.{◌≡◌, ◌+◌, ◌++◌, ℕ, map}
use Rattle.std.specs.Prelude.{sum_by}
use Rattle.std.specs.declared.vec.Vec.{Vec}
use Rattle.std.specs.declared.alloc.Global.{Global}
use Rattle.slice_yard.specs.declared.slices.Slice.{Slice}
use Rattle.slice_yard.specs.declared.lane.Lane.{Lane}
use Rattle.slice_yard.specs.declared.lane.Thief.{Thief}
use Rattle.slice_yard.specs.Shared.{lists_sum, thieves_sum}
use Rattle.std.specs.List.{flat_map}
use Rattle.std.specs.Vec.Iter.{into_iter_items}
use Rattle.slice_yard.specs.Lane.{LanePlace, lane_state, lane_hand}
use Rattle.slice_core.specs.Named.{named_from}
use Rattle.slice_yard.specs.Yard.{lists_of, with_lists}
use Rattle.slice_yard.proofs.yard.close.Given as goal

abbrev pub invariant-loop-ends : goal.invariant-loop-ends
invariant-loop-ends l = record {
  lanes : (f : ℕ → LanePlace) (n : ℕ) → map lane_state l.initial.lanes.items ≡ named_from f 0 n
      → map lane_state l.lanes.items ≡ named_from (λ k. ((f k).0, with_lists (lists_of k (flat_map (λ v. v.items) l.yielded)) (f k).1)) 0 n;
  sums : (h : Slice → ℕ) → sum_by (λ (x : Lane). lists_sum h (lane_hand x)) l.lanes.items ≡ sum_by (λ (x : Lane). lists_sum h (lane_hand x)) l.initial.lanes.items + sum_by (λ (v : Vec Thief Global). thieves_sum h v.items) l.yielded;
  all : l.fn.thieves.items ≡ l.yielded ++ into_iter_items l.ends-iterator;
}
