use Rattle.std.proofs.Common.{◌≡◌, ◌+◌, ℕ, map, All}
use Rattle.std.specs.Prelude.{sum_by}
use Rattle.slice_yard.specs.declared.slices.Slice.{Slice}
use Rattle.audit_slices.specs.Reports.{IsReported}
use Rattle.slice_yard.specs.Receipts.{receipt_hands}
use Rattle.audit_slices.specs.Run.{unspent, rest_sum}
use Rattle.audit_slices.proofs.run.drain.Given as goal

abbrev pub invariant-loop : goal.invariant-loop
invariant-loop g l = record {
  same : map unspent (receipt_hands l.receipts) ≡ map unspent (receipt_hands l.initial.receipts);
  given : All (IsReported (g.C.Check.gives l.check)) l.done.items;
  sums : (h : Slice → ℕ) → sum_by (λ r. h r.slice) l.done.items + rest_sum h (receipt_hands l.initial.receipts) ≡ sum_by (λ r. h r.slice) l.initial.done.items + rest_sum h (receipt_hands l.receipts);
}
