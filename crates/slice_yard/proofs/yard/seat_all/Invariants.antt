use Rattle.std.proofs.Common.{◌≡◌, ◌≤◌, ◌++◌, ℕ, List, length, map}
use Rattle.std.specs.Prelude.{vec_len, vec_capacity}
use Rattle.std.specs.Vec.Iter.{into_iter_items}
use Rattle.slice_yard.specs.declared.slices.Slice.{Slice}
use Rattle.slice_yard.specs.Lane.{Deque, lane_state, lane_deque, thief_state}
use Rattle.slice_yard.specs.Yard.{lanes_at_first, thieves_at_first, lanes_seated}
use Rattle.slice_yard.proofs.yard.seat_all.Given as goal

abbrev pub invariant-loop-post : goal.invariant-loop-post
invariant-loop-post l = record {
  lanes : (xs : List Slice) (deques : ℕ → Deque) → map lane_state l.initial.lanes.items ≡ lanes_at_first deques xs (length l.initial.lanes.items) 1
      → map lane_state l.lanes.items ≡ lanes_seated deques xs (length l.initial.lanes.items) (length l.yielded);
  thieves : (xs : List Slice) (deques : ℕ → Deque) → map lane_state l.initial.lanes.items ≡ lanes_at_first deques xs (length l.initial.lanes.items) 1
      → map (λ v. map thief_state v.items) l.thieves.items ≡ thieves_at_first deques xs (length l.initial.lanes.items) (length l.yielded);
  same : map lane_deque l.lanes.items ≡ map lane_deque l.initial.lanes.items;
  count : vec_len l.thieves ≡ length l.yielded;
  room : vec_len l.fn.posts ≤ vec_capacity l.thieves;
  all : l.fn.posts.items ≡ l.yielded ++ into_iter_items l.post-iterator;
}
