use Rattle.std.proofs.Common.{List, ◌++◌, map, drop}
use Rattle.rewrites.specs.Expression.{Expression}
use Rattle.rewrites.specs.Joints.{JoinAlike}
use Rattle.rewrites.specs.Parts.{throughs_shown, parts_shown, nodes_shown, IsGrown}
use Rattle.rewrites.specs.View.{expression_of}
use Rattle.rewrites.specs.declared.plain.Joint.TheVariants.{Union, Inter}
use Rattle.rewrites.proofs.parts.+node.Given as goal

-- the nodes so far, those that go through tuplesets, and the children that are left
abbrev pub invariant-union_of-loop-child : goal.invariant-union_of-loop-child
invariant-union_of-loop-child l =
    IsGrown (parts_shown l.fn.numbering.parts.items) (parts_shown l.numbering.parts.items)
    × ((more : List Expression) →
    JoinAlike Union ((nodes_shown (parts_shown l.numbering.parts.items ++ more) l.nodes.items ++ throughs_shown l.throughs.each.items)
    ++ map expression_of (drop l.child-index l.child-items)) (map expression_of l.child-items))

-- the nodes so far, and the children that are left
abbrev pub invariant-inter_of-loop-child : goal.invariant-inter_of-loop-child
invariant-inter_of-loop-child l =
    IsGrown (parts_shown l.fn.numbering.parts.items) (parts_shown l.numbering.parts.items)
    × ((more : List Expression) →
    JoinAlike Inter (nodes_shown (parts_shown l.numbering.parts.items ++ more) l.nodes.items
    ++ map expression_of (drop l.child-index l.child-items)) (map expression_of l.child-items))
