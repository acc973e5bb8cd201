use Rattle.std.specs.Prelude.{◌≡◌}
use Rattle.goal_cone.proofs.leaves.put_through.Given as goal

abbrev pub invariant-loop-i : goal.invariant-loop-i
invariant-loop-i l = l.parts.items ≡ l.fn.parts.items
