use Rattle.std.specs.List.{AllZip, range_with_len}
use Rattle.audit_slices.proofs.checks.Check.check_run.Given as goal

abbrev pub invariant-loop-k : goal.invariant-loop-k
invariant-loop-k g l = AllZip (g.Self.Check.gives l.self) (range_with_len l.from l.k) l.reports.items
