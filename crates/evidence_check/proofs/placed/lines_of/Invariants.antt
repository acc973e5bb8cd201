use Rattle.std.proofs.Common.{◌≡◌, take}
use Rattle.trace_lines.specs.Values.{entry_lines}
use Rattle.evidence_check.proofs.placed.lines_of.Given as goal

abbrev pub invariant-loop-i : goal.invariant-loop-i
invariant-loop-i l = l.lines.items ≡ take l.i (entry_lines l.trace.entries)
