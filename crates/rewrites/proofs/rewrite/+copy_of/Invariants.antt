use Rattle.std.proofs.Common.{◌≡◌, ◌++◌, map, drop}
use Rattle.rewrites.specs.View.{expression_of}
use Rattle.rewrites.proofs.rewrite.+copy_of.Given as goal

-- the copies so far, and the children that are left
abbrev pub invariant-copies_of-loop-child : goal.invariant-copies_of-loop-child
invariant-copies_of-loop-child l = map expression_of l.copies.items ++ map expression_of (drop l.child-index l.child-items) ≡ map expression_of l.child-items
