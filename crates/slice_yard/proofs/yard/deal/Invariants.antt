use Rattle.std.proofs.Common.{◌≡◌, ◌++◌, length, map}
use Rattle.std.specs.Vec.Iter.{into_iter_items}
use Rattle.slice_yard.specs.Lane.{lane_deque}
use Rattle.slice_yard.proofs.DealLemmas.{IsDealt}
use Rattle.slice_yard.proofs.yard.deal.Given as goal

abbrev pub invariant-loop-slice : goal.invariant-loop-slice
invariant-loop-slice l = record {
  so_far : IsDealt (length l.initial.lanes) (length l.fn.slices.items) l.yielded l.lanes;
  same : map lane_deque l.lanes ≡ map lane_deque l.initial.lanes;
  all : l.fn.slices.items ≡ l.yielded ++ into_iter_items l.slice-iterator;
}
