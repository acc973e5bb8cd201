use Rattle.std.proofs.Common.{◌≡◌, ◌++◌, drop}
use Rattle.audit.specs.Shared.{found_lines}
use Rattle.audit.proofs.shared.push_all.Given as goal

abbrev pub invariant-loop-one : goal.invariant-loop-one
invariant-loop-one l =
    l.findings.items ++ found_lines (drop l.one-index l.found) ≡ l.fn.findings.items ++ found_lines l.found
