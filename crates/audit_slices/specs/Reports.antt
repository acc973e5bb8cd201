-- What a clause says of the reports of a slice.
use Rattle.std.specs.Prelude.{ℕ, List}
use Rattle.std.specs.List.{AllZip, range_with_len}
use Rattle.slice_yard.specs.declared.slices.Slice.{Slice}
use Rattle.slice_yard.specs.Cut.{first_entry, slice_len}
use Rattle.audit_slices.specs.declared.checks.SliceReport.{SliceReport}

module _ {X : Type 0} where
  abbrev pub report_slice : SliceReport X → Slice
  report_slice r = r.slice

  abbrev pub report_items : SliceReport X → List X
  report_items r = r.reports.items

  -- there is a report for each entry of the slice, in order, and it is one that may be given to that entry
  abbrev pub IsReported : (ℕ → X → Type 0) → SliceReport X → Type 0
  IsReported gives r = AllZip gives (range_with_len (first_entry r.slice) (slice_len r.slice)) r.reports.items
