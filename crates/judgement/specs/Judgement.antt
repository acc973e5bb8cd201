-- What follows for one rule from facts that are known to hold and facts that are known not to. A rule is read over a
-- tuple store alone: neither relation searches, nor looks into another relation's rule.
use Rattle.std.specs.Prelude.{◌≡◌, List, None, ◌⊎◌, Contains}
use Rattle.tuple_text.specs.Sets.{SetValue}
use Rattle.tuple_text.specs.Tuples.{TupleValue, FactValue}
use Rattle.tuple_text.specs.declared.users.User.TheVariants.{Id, Set}
use Rattle.rewrites.specs.Expression.{Expression, this, computed, tuple_to, union, inter, minus, Expressions, no_child, child}
use Rattle.namespaces.specs.Lookup.{Lookup, rule_of}
use Rattle.strata.specs.Meaning.{with_relation, same_user, IsStored}

-- the facts that are known to hold, and those that are known not to, in the order in which they were added
pub record KnownValue : Type 0 where
  pub yes : List FactValue
  pub no : List FactValue

abbrev pub IsUndeclared : Lookup → SetValue → Type 0
IsUndeclared rules g = rule_of rules g ≡ None

-- the fact is known not to hold, or its userset is undeclared and so has no members
abbrev pub IsOut : Lookup → KnownValue → FactValue → Type 0
IsOut rules known f = IsUndeclared rules f.set ⊎ Contains known.no f

abbrev mutual
  -- the expression gives the fact
  pub Established : Lookup → List TupleValue → KnownValue → FactValue → Expression → Type 0
  Established rules store known f this =
      IsStored store f.set (Id f.user)
      ⊎ ((g : SetValue) × IsStored store f.set (Set g) × Contains known.yes (same_user f g))
  Established rules store known f (computed q) = Contains known.yes (same_user f (with_relation f.set q))
  Established rules store known f (tuple_to q c) =
      (g : SetValue) × IsStored store (with_relation f.set q) (Set g)
      × Contains known.yes (same_user f (with_relation g c))
  Established rules store known f (union es) = SomeEstablished rules store known f es
  Established rules store known f (inter es) = EachEstablished rules store known f es
  Established rules store known f (minus a b) =
      Established rules store known f a × Refuted rules store known f b

  pub SomeEstablished : Lookup → List TupleValue → KnownValue → FactValue → Expressions → Type 0
  SomeEstablished rules store known f no_child = ⊥
  SomeEstablished rules store known f (child e es) =
      Established rules store known f e ⊎ SomeEstablished rules store known f es

  pub EachEstablished : Lookup → List TupleValue → KnownValue → FactValue → Expressions → Type 0
  EachEstablished rules store known f no_child = Unit {0}
  EachEstablished rules store known f (child e es) =
      Established rules store known f e × EachEstablished rules store known f es

  -- the expression cannot give the fact
  pub Refuted : Lookup → List TupleValue → KnownValue → FactValue → Expression → Type 0
  Refuted rules store known f this =
      (¬ IsStored store f.set (Id f.user))
      × ((g : SetValue) → IsStored store f.set (Set g) → IsOut rules known (same_user f g))
  Refuted rules store known f (computed q) = Contains known.no (same_user f (with_relation f.set q))
  Refuted rules store known f (tuple_to q c) =
      (g : SetValue) → IsStored store (with_relation f.set q) (Set g)
      → IsOut rules known (same_user f (with_relation g c))
  Refuted rules store known f (union es) = EachRefuted rules store known f es
  Refuted rules store known f (inter es) = SomeRefuted rules store known f es
  Refuted rules store known f (minus a b) =
      Refuted rules store known f a ⊎ Established rules store known f b

  pub EachRefuted : Lookup → List TupleValue → KnownValue → FactValue → Expressions → Type 0
  EachRefuted rules store known f no_child = Unit {0}
  EachRefuted rules store known f (child e es) =
      Refuted rules store known f e × EachRefuted rules store known f es

  pub SomeRefuted : Lookup → List TupleValue → KnownValue → FactValue → Expressions → Type 0
  SomeRefuted rules store known f no_child = ⊥
  SomeRefuted rules store known f (child e es) =
      Refuted rules store known f e ⊎ SomeRefuted rules store known f es
