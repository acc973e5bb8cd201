use Rattle.std.proofs.Common.{◌++◌, map, drop}
use Rattle.rewrites.specs.Joints.{JoinPlain}
use Rattle.rewrites.specs.View.{expression_of}
use Rattle.rewrites.proofs.plain.put_copies.Given as goal

-- the children so far, and those that are left
abbrev pub invariant-loop-child : goal.invariant-loop-child
invariant-loop-child l =
    JoinPlain l.fn.joint (map expression_of l.kept.items ++ map expression_of (drop l.child-index l.child-items))
    (map expression_of l.fn.kept.items ++ map expression_of l.child-items)
