use Rattle.std.proofs.Common.{drop}
use Rattle.rewrites.specs.View.{expressions_of}
use Rattle.goal_cone.specs.Pass.{IsUnderWayOver}
use Rattle.goal_cone.proofs.premises.+see_premises.Given as goal

abbrev pub invariant-see_children-loop-child : goal.invariant-see_children-loop-child
invariant-see_children-loop-child l =
    IsUnderWayOver 131072 4194304 l.fact (expressions_of l.children.items)
    (expressions_of (drop l.child-index l.child-items)) l.fn.seen l.seen l.fn.room l.room
