use Rattle.std.proofs.Common.{◌≡◌, ◌++◌, drop}
use Rattle.std.specs.List.{flat_map}
use Rattle.audit_slices.specs.Reports.{report_items}
use Rattle.audit.specs.Shared.{found_lines}
use Rattle.audit.proofs.shared.gather.Given as goal

abbrev pub invariant-loop-report : goal.invariant-loop-report
invariant-loop-report l =
    l.findings.items ++ found_lines (flat_map report_items (drop l.report-index l.reports)) ≡ found_lines
    (flat_map report_items l.reports)
