use Rattle.std.proofs.Common.{◌≤◌, length}
use Rattle.runs.proofs.making.base_of.Given as goal

abbrev pub invariant-loop-c : goal.invariant-loop-c
invariant-loop-c l = (l.c ≤ length l.log.commits) × (l.earlier ≤ length l.declared)

abbrev pub decreases-loop-c : goal.decreases-loop-c
decreases-loop-c l = l.c
