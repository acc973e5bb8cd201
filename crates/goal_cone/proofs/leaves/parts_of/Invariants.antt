use Rattle.std.specs.Prelude.{◌++◌, map}
use Rattle.std.specs.Vec.Iter.{into_iter_items}
use Rattle.rewrites.specs.Leaves.{leaves_in}
use Rattle.rewrites.specs.Parts.{parts_shown}
use Rattle.rewrites.specs.Plain.{IsThinned}
use Rattle.rewrites.specs.View.{expression_of}
use Rattle.goal_cone.proofs.leaves.parts_of.Given as goal

-- what is there and what is to come
abbrev pub invariant-loop-leaf : goal.invariant-loop-leaf
invariant-loop-leaf l =
    IsThinned (leaves_in (parts_shown l.parts.items) ++ leaves_in (map expression_of (into_iter_items l.leaf-iterator))) (leaves_in (map expression_of l.fn.leaves.items))
