-- Which facts a rule reads for a fact.
use Rattle.std.specs.Prelude.{◌≡◌, List, ◌⊎◌}
use Rattle.tuple_text.specs.Sets.{SetValue}
use Rattle.tuple_text.specs.Tuples.{TupleValue, FactValue}
use Rattle.tuple_text.specs.declared.users.User.TheVariants.{Set}
use Rattle.rewrites.specs.Expression.{Expression, this, computed, tuple_to, union, inter, minus, Expressions, no_child, child}
use Rattle.strata.specs.Meaning.{with_relation, same_user, IsStored}

-- Some premise that the expression reads for f meets P in a plain place, or N under a subtracted side.
abbrev mutual
  pub SomePremise : List TupleValue → (FactValue → Type 0) → (FactValue → Type 0) → FactValue → Expression → Type 0
  SomePremise store P N f this = (g : SetValue) × IsStored store f.set (Set g) × P (same_user f g)
  SomePremise store P N f (computed q) = P (same_user f (with_relation f.set q))
  SomePremise store P N f (tuple_to q c) =
      (g : SetValue) × IsStored store (with_relation f.set q) (Set g) × P (same_user f (with_relation g c))
  SomePremise store P N f (union es) = SomePremises store P N f es
  SomePremise store P N f (inter es) = SomePremises store P N f es
  SomePremise store P N f (minus a b) = SomePremise store P N f a ⊎ SomePremise store N N f b

  pub SomePremises : List TupleValue → (FactValue → Type 0) → (FactValue → Type 0) → FactValue → Expressions → Type 0
  SomePremises store P N f no_child = ⊥
  SomePremises store P N f (child e es) = SomePremise store P N f e ⊎ SomePremises store P N f es

-- the expression reads p for f
abbrev pub Reads : List TupleValue → FactValue → Expression → FactValue → Type 0
Reads store f e p = SomePremise store (λ q. q ≡ p) (λ q. q ≡ p) f e

-- some expression of a list reads p for f
abbrev pub ReadsSome : List TupleValue → FactValue → Expressions → FactValue → Type 0
ReadsSome store f es p = SomePremises store (λ q. q ≡ p) (λ q. q ≡ p) f es

-- in a plain place
abbrev pub ReadsPlainly : List TupleValue → FactValue → Expression → FactValue → Type 0
ReadsPlainly store f e p = SomePremise store (λ q. q ≡ p) (λ _. ⊥) f e

-- under a subtracted side
abbrev pub ReadsStrictly : List TupleValue → FactValue → Expression → FactValue → Type 0
ReadsStrictly store f e p = SomePremise store (λ _. ⊥) (λ q. q ≡ p) f e
