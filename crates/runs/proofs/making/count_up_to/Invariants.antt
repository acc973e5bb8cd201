use Rattle.std.proofs.Common.{◌≤◌}
use Rattle.runs.proofs.making.count_up_to.Given as goal

abbrev pub invariant-loop-count : goal.invariant-loop-count
invariant-loop-count l = l.count ≤ l.fn.count

abbrev pub decreases-loop-count : goal.decreases-loop-count
decreases-loop-count l = l.count
