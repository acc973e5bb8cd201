use Rattle.std.proofs.Common.{◌≡◌, ◌+◌, ◌%◌, All, length, map}
use Rattle.std.specs.Prelude.{vec_len}
use Rattle.slice_core.specs.Named.{named_from}
use Rattle.slice_yard.specs.Lane.{lane_deque}
use Rattle.slice_yard.specs.Yard.{IsTakerAt}
use Rattle.slice_yard.proofs.yard.new_post.Given as goal

abbrev pub invariant-loop-i : goal.invariant-loop-i
invariant-loop-i l = record {
  count : vec_len l.seats ≡ l.i;
  lanes : map (λ s. s.lane) l.seats.items ≡ named_from (λ i. i % length l.lanes) (l.worker + 1) l.i;
  takers : All (IsTakerAt (map lane_deque l.lanes)) l.seats.items;
}
