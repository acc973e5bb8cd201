use Rattle.std.proofs.Common.{◌≡◌, drop, nat_lt}
use Rattle.rewrites.specs.Expression.{greatest_depth}
use Rattle.rewrites.specs.View.{expressions_of}
use Rattle.rewrites.proofs.rewrite.+is_deeper.Given as goal

-- what decides is the depth of the children that are left
abbrev pub invariant-is_any_deeper-loop-child : goal.invariant-is_any_deeper-loop-child
invariant-is_any_deeper-loop-child l = nat_lt l.limit (greatest_depth (expressions_of l.child-items)) ≡ nat_lt l.limit (greatest_depth (expressions_of (drop l.child-index l.child-items)))
