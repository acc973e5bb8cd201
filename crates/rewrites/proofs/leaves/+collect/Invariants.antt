use Rattle.std.proofs.Common.{◌++◌, map, drop}
use Rattle.rewrites.specs.Plain.{leaves_of_all, IsThinned}
use Rattle.rewrites.specs.View.{expression_of, expressions_of}
use Rattle.rewrites.specs.Leaves.{leaves_in}
use Rattle.rewrites.proofs.leaves.+collect.Given as goal

-- the leaves so far, and those of the children that are left
abbrev pub invariant-collect_all-loop-child : goal.invariant-collect_all-loop-child
invariant-collect_all-loop-child l =
    IsThinned (leaves_in (map expression_of l.kept.items) ++ leaves_of_all (expressions_of (drop l.child-index l.child-items)))
    (leaves_in (map expression_of l.fn.kept.items) ++ leaves_of_all (expressions_of l.child-items))
