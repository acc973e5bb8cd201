use Rattle.std.proofs.Common.{◌≡◌, ◌*◌, ◌<◌, ℕ, length}
use Rattle.std.specs.Prelude.{slice_index_or, min}
use Rattle.std.specs.List.{range_with_len}
use Rattle.slice_yard.specs.declared.slices.Slice.{Slice}
use Rattle.slice_yard.specs.Cut.{IsSliceOf, entries_of}
use Rattle.slice_yard.proofs.slices.cut.Given as goal

abbrev pub invariant-loop-number : goal.invariant-loop-number
invariant-loop-number l = record {
  count : length l.slices.items ≡ l.number;
  each : (k : ℕ) (d : Slice) → k < length l.slices.items → IsSliceOf l.entries l.size k (slice_index_or l.slices.items k d);
  entries : entries_of l.slices.items ≡ range_with_len 0 (min l.entries (l.number * l.size));
}
