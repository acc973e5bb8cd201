-- Walks over a rule, child by child.
use Rattle.std.proofs.Common.{◌≡◌, ℕ, ◌+◌, ◌<◌, ◌≤◌, List, [], ◌∷◌, length, get_or, drop, refl, add-one, arith}
use Rattle.std.proofs.Math.Seq.{drop-cons}
use Rattle.rewrites.specs.Expression.{Expression, this, computed, tuple_to, union, inter, minus, child, depth, child_count}
use Rattle.rewrites.specs.View.{expression_of, expressions_of}
use Rattle.rewrites.specs.declared.rewrite.Rewrite.{Rewrite}

-- the children from one on: that one, and those behind it
pub children_step : (rs : List Rewrite) (i : ℕ) (d : Rewrite) → i < length rs → expressions_of (drop i rs) ≡ child (expression_of (get_or rs i d)) (expressions_of (drop (i + 1) rs))
children_step rs i d h = rw (drop-cons rs i d h, add-one) refl

-- every rule has a level
pub depth_positive : (r : Expression) → 1 ≤ depth r
depth_positive this = omega arith
depth_positive (computed q) = omega arith
depth_positive (tuple_to q c) = omega arith
depth_positive (union rs) = omega arith
depth_positive (inter rs) = omega arith
depth_positive (minus a b) = omega arith

-- the children are as many as the rewrites
pub children_counted : (rs : List Rewrite) → child_count (expressions_of rs) ≡ length rs
children_counted [] = refl
children_counted (r ∷ rs) = rw (children_counted rs, add-one) refl
