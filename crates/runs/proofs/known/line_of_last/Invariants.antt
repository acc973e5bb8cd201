use Rattle.std.proofs.Common.{◌≤◌, length}
use Rattle.runs.proofs.known.line_of_last.Given as goal

abbrev pub invariant-loop-i : goal.invariant-loop-i
invariant-loop-i l = l.i ≤ length l.log.entries

abbrev pub decreases-loop-i : goal.decreases-loop-i
decreases-loop-i l = l.i
