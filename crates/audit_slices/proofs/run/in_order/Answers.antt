use Rattle.std.proofs.Common.{rules}
use Rattle.std.proofs.lemmas.List.Sorted.{IsNonDecreasingBy-from_sort_by_key}
use Rattle.audit_slices.specs.declared.checks.SliceReport.{SliceReport}
use Rattle.audit_slices.proofs.run.in_order.Goals as goal

pub returns-clause-rising : goal.returns-clause-rising
returns-clause-rising g c = IsNonDecreasingBy-from_sort_by_key (λ (r : SliceReport g.row.X.Denot). r.slice.number) _ c.sort_unstable_by_key.ensures.sorted (λ a r q k. search rules)
