use Rattle.std.proofs.Common.{List, ◌++◌, vec_len}
use Rattle.rewrites.specs.Expression.{Expression}
use Rattle.rewrites.specs.Joints.{JoinAlike}
use Rattle.rewrites.specs.Parts.{throughs_shown, parts_shown, nodes_shown, IsGrown}
use Rattle.rewrites.specs.declared.plain.Joint.TheVariants.{Union}
use Rattle.rewrites.proofs.parts.put_throughs.Given as goal

-- the nodes so far, and those that are left
abbrev pub invariant-loop-through : goal.invariant-loop-through
invariant-loop-through l =
    IsGrown (parts_shown l.fn.numbering.parts.items) (parts_shown l.numbering.parts.items)
    × ((more : List Expression) →
    JoinAlike Union (nodes_shown (parts_shown l.numbering.parts.items ++ more) l.nodes.items ++ throughs_shown l.left.items)
    (nodes_shown (parts_shown l.numbering.parts.items ++ more) l.fn.nodes.items ++ throughs_shown l.fn.throughs.items))

abbrev pub decreases-loop-through : goal.decreases-loop-through
decreases-loop-through l = vec_len l.left
