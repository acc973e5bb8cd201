-- A plain form of a rule: it says the same, by the same leaves, and has none of them more often.
use Rattle.std.specs.Prelude.{◌≡◌, ℕ, ◌≤◌, Bool, List, [], ◌∷◌, ◌++◌, Option, None, Some, sum_by, ⊤}
use Rattle.std.specs.List.{list_any}
use Rattle.rewrites.specs.Alike.{IsAlike}
use Rattle.rewrites.specs.Expression.{Expression, this, computed, tuple_to, union, inter, minus}
use Rattle.rewrites.specs.Expression.{Expressions, no_child, child}

-- the leaves of an expression, in order, each as often as it stands there
abbrev mutual
  pub leaves : Expression → List Expression
  leaves this = this ∷ []
  leaves (computed q) = computed q ∷ []
  leaves (tuple_to q c) = tuple_to q c ∷ []
  leaves (union es) = leaves_of_all es
  leaves (inter es) = leaves_of_all es
  leaves (minus a b) = leaves a ++ leaves b

  pub leaves_of_all : Expressions → List Expression
  leaves_of_all no_child = []
  leaves_of_all (child e es) = leaves e ++ leaves_of_all es

-- a list has what another has, by each test, and weighs no more than it, whatever each element weighs
pub record IsThinned (xs ys : List Expression) : Type 0 where
  pub same : (test : Expression → Bool) → list_any test xs ≡ list_any test ys
  pub no_heavier : (weight : Expression → ℕ) → sum_by weight xs ≤ sum_by weight ys

-- a is a plain form of b
pub record IsPlainOf (a b : Expression) : Type 0 where
  pub alike : IsAlike a b
  pub thinned : IsThinned (leaves a) (leaves b)

-- the same of two rules, or there is neither
abbrev pub ArePlain : Option Expression → Option Expression → Type 0
ArePlain None None = ⊤
ArePlain None (Some b) = ⊥
ArePlain (Some a) None = ⊥
ArePlain (Some a) (Some b) = IsPlainOf a b
