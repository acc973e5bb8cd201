-- Laws of the meaning over one store.
use Rattle.std.specs.Prelude.{◌≡◌, ℕ, ◌≤◌, List, Some, Bool, IsTrue, ◌↔◌}
use Rattle.tuple_text.specs.Tuples.{TupleValue, FactValue}
use Rattle.rewrites.specs.Expression.{Expression, this, computed, tuple_to, union, inter, minus, Expressions, no_child, child}
use Rattle.namespaces.specs.Lookup.{Rule, Lookup, rule_of}
use Rattle.strata.specs.Meaning.{Body, In, Member}
use Rattle.strata.specs.Strata.{IsLower}

-- a fact of a stratum is settled there: no higher stratum changes it
abbrev pub IsStable : Lookup → List TupleValue → Type 0
IsStable rules store =
    (f : FactValue) (r : Rule) → rule_of rules f.set ≡ Some r →
    (k : ℕ) → r.stratum ≤ k → (In rules store k f ↔ In rules store r.stratum f)

-- P holds of what a rule derives from the facts of which P holds and from those of which it does not
abbrev pub IsClosedUnderRules : Lookup → List TupleValue → (FactValue → Type 0) → Type 0
IsClosedUnderRules rules store P =
    (f : FactValue) (r : Rule) → rule_of rules f.set ≡ Some r → Body store P P f r.expression → P f

-- what a rule derives from members and from those who are none is a member
abbrev pub IsClosed : Lookup → List TupleValue → Type 0
IsClosed rules store = IsClosedUnderRules rules store (Member rules store)

-- a member is derived by its rule from members and from those who are none
abbrev pub IsDerived : Lookup → List TupleValue → Type 0
IsDerived rules store =
    (f : FactValue) (r : Rule) → rule_of rules f.set ≡ Some r →
    Member rules store f → Body store (Member rules store) (Member rules store) f r.expression

-- ---- the least relation

-- the facts that meet a test are a relation between users and usersets
abbrev pub Meets : (FactValue → Bool) → FactValue → Type 0
Meets test f = IsTrue (test f)

-- some test tells members from those who are none
abbrev pub HasMemberTest : Lookup → List TupleValue → Type 0
HasMemberTest rules store = (test : FactValue → Bool) × ((f : FactValue) → (Meets test f ↔ Member rules store f))

-- the expression subtracts nothing
abbrev mutual
  pub IsWithoutExclusion : Expression → Type 0
  IsWithoutExclusion this = Unit {0}
  IsWithoutExclusion (computed q) = Unit {0}
  IsWithoutExclusion (tuple_to q c) = Unit {0}
  IsWithoutExclusion (union es) = AreWithoutExclusion es
  IsWithoutExclusion (inter es) = AreWithoutExclusion es
  IsWithoutExclusion (minus a b) = ⊥

  pub AreWithoutExclusion : Expressions → Type 0
  AreWithoutExclusion no_child = Unit {0}
  AreWithoutExclusion (child e es) = IsWithoutExclusion e × AreWithoutExclusion es

abbrev pub HasNoExclusion : Lookup → Type 0
HasNoExclusion rules = (namespace relation : List ℕ) (r : Rule) → rules namespace relation ≡ Some r → IsWithoutExclusion r.expression

-- each relation that is closed under the rules contains the members
abbrev pub HasLeastMembers : Lookup → List TupleValue → Type 0
HasLeastMembers rules store =
    (test : FactValue → Bool) → IsClosedUnderRules rules store (Meets test) →
    (f : FactValue) → Member rules store f → Meets test f

-- P is membership where the fact's relation is of a stratum below k, or is not declared
abbrev pub AgreesBelow : Lookup → List TupleValue → ℕ → (FactValue → Type 0) → Type 0
AgreesBelow rules store k P = (f : FactValue) → IsLower rules k f → (P f ↔ Member rules store f)

-- the same as `IsClosedUnderRules`, of the rules of stratum k alone
abbrev pub IsClosedAt : Lookup → List TupleValue → ℕ → (FactValue → Type 0) → Type 0
IsClosedAt rules store k P =
    (f : FactValue) (r : Rule) → rule_of rules f.set ≡ Some r → r.stratum ≡ k → Body store P P f r.expression → P f

-- each relation that is membership below stratum k, and is closed under the rules of stratum k, contains the members
-- of stratum k
abbrev pub HasLeastMembersAt : Lookup → List TupleValue → ℕ → Type 0
HasLeastMembersAt rules store k =
    (test : FactValue → Bool) → AgreesBelow rules store k (Meets test) → IsClosedAt rules store k (Meets test) →
    (f : FactValue) (r : Rule) → rule_of rules f.set ≡ Some r → r.stratum ≡ k → Member rules store f → Meets test f
