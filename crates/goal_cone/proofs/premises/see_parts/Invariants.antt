use Rattle.std.proofs.Common.{drop}
use Rattle.rewrites.specs.Expression.{children}
use Rattle.goal_cone.specs.Leaves.{read_shown}
use Rattle.goal_cone.specs.Pass.{IsUnderWayOver}
use Rattle.goal_cone.proofs.premises.see_parts.Given as goal

abbrev pub invariant-loop-part : goal.invariant-loop-part
invariant-loop-part l =
    IsUnderWayOver 131072 4194304 l.fact (children (read_shown l.parts))
    (children (read_shown (drop l.part-index l.parts))) l.fn.seen l.seen l.fn.room l.room
