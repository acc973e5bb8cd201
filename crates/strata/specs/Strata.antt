-- Valid strata.
use Rattle.std.specs.Prelude.{◌≡◌, ℕ, ◌≤◌, ◌<◌, List, map, Some, option_map, Contains}
use Rattle.tuple_text.specs.Sets.{SetValue}
use Rattle.tuple_text.specs.Tuples.{TupleValue, FactValue}
use Rattle.tuple_text.specs.declared.users.User.TheVariants.{Set}
use Rattle.rewrites.specs.Expression.{Expression, this, computed, tuple_to, union, inter, minus, Expressions, no_child, child}
use Rattle.namespaces.specs.Declaration.{Relation, Declaration}
use Rattle.namespaces.specs.Lookup.{Rule, Lookup, rule_of}
use Rattle.strata.specs.Meaning.{with_relation, same_user, IsStored}

-- Each premise that the expression reads for f meets P in a positive place, and N under a subtracted side.
abbrev mutual
  pub EachPremise : List TupleValue → (FactValue → Type 0) → (FactValue → Type 0) → FactValue → Expression → Type 0
  EachPremise store P N f this = (g : SetValue) → IsStored store f.set (Set g) → P (same_user f g)
  EachPremise store P N f (computed q) = P (same_user f (with_relation f.set q))
  EachPremise store P N f (tuple_to q c) =
      (g : SetValue) → IsStored store (with_relation f.set q) (Set g) → P (same_user f (with_relation g c))
  EachPremise store P N f (union es) = EachPremises store P N f es
  EachPremise store P N f (inter es) = EachPremises store P N f es
  EachPremise store P N f (minus a b) = EachPremise store P N f a × EachPremise store N N f b

  pub EachPremises : List TupleValue → (FactValue → Type 0) → (FactValue → Type 0) → FactValue → Expressions → Type 0
  EachPremises store P N f no_child = Unit {0}
  EachPremises store P N f (child e es) = EachPremise store P N f e × EachPremises store P N f es

-- where f's relation is declared, its stratum is k or lower
abbrev pub IsAtMost : Lookup → ℕ → FactValue → Type 0
IsAtMost rules k f = (r : Rule) → rule_of rules f.set ≡ Some r → r.stratum ≤ k

-- where f's relation is declared, its stratum is lower than k
abbrev pub IsLower : Lookup → ℕ → FactValue → Type 0
IsLower rules k f = (r : Rule) → rule_of rules f.set ≡ Some r → r.stratum < k

-- no rule reads a premise of a higher stratum, nor one of its own stratum under a subtracted side
abbrev pub HasValidStrata : Lookup → List TupleValue → Type 0
HasValidStrata rules store =
    (f : FactValue) (r : Rule) → rule_of rules f.set ≡ Some r →
    EachPremise store (IsAtMost rules r.stratum) (IsLower rules r.stratum) f r.expression

-- the same relations are declared, with the same expressions
abbrev pub HaveSameExpressions : Lookup → Lookup → Type 0
HaveSameExpressions old new =
    (namespace relation : List ℕ) →
    option_map (λ (r : Rule). r.expression) (old namespace relation) ≡ option_map (λ (r : Rule). r.expression) (new namespace relation)

-- two lists of declarations without their strata are the same where they differ in strata alone
abbrev pub on_stratum_0 : Relation → Relation
on_stratum_0 r = record r { stratum = 0 }

abbrev pub without_strata : Declaration → Declaration
without_strata d = record d { relations = map on_stratum_0 d.relations }

abbrev pub DifferInStrataAlone : List Declaration → List Declaration → Type 0
DifferInStrataAlone old new = map without_strata old ≡ map without_strata new

-- the relations that are declared have names in a list
abbrev pub HasNames : Lookup → List (List ℕ) → Type 0
HasNames rules names = (namespace relation : List ℕ) (r : Rule) → rules namespace relation ≡ Some r → Contains names relation
