use Rattle.std.proofs.Common.{◌≤◌}
use Rattle.rewrites.proofs.rewrite.+places_up_to.Given as goal

-- no more than may be counted
abbrev pub invariant-loop-child : goal.invariant-loop-child
invariant-loop-child l = l.places ≤ l.fn.most
