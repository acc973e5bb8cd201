use Rattle.std.proofs.Common.{◌++◌, map, drop}
use Rattle.rewrites.specs.Joints.{JoinPlain}
use Rattle.rewrites.specs.View.{expression_of}
use Rattle.rewrites.proofs.plain.+plain_of.Given as goal

-- the children so far, and those that are left
abbrev pub invariant-plain_joined-loop-child : goal.invariant-plain_joined-loop-child
invariant-plain_joined-loop-child l =
    JoinPlain l.joint (map expression_of l.kept.items ++ map expression_of (drop l.child-index l.child-items)) (map expression_of l.child-items)
