-- What the rules mean over one store: who is a member of which userset.
use Rattle.std.specs.Prelude.{◌≡◌, ℕ, zero, suc, ◌+◌, ◌≤◌, List, Some, ◌⊎◌, Contains}
use Rattle.tuple_text.specs.Sets.{SetValue}
use Rattle.tuple_text.specs.Tuples.{TupleValue, FactValue}
use Rattle.tuple_text.specs.declared.users.User.{User}
use Rattle.tuple_text.specs.declared.users.User.TheVariants.{Id, Set}
use Rattle.rewrites.specs.Expression.{Expression, this, computed, tuple_to, union, inter, minus, Expressions, no_child, child}
use Rattle.namespaces.specs.Lookup.{Rule, Lookup, rule_of}

-- the same object under another relation
abbrev pub with_relation : SetValue → List ℕ → SetValue
with_relation g q = record g { relation = q }

-- the fact that f's user is in another userset
abbrev pub same_user : FactValue → SetValue → FactValue
same_user f g = record { set = g; user = f.user }

abbrev pub IsStored : List TupleValue → SetValue → User → Type 0
IsStored store g u = Contains store (record { set = g; user = u })

-- The rule's expression holds of f, where P says which premises hold in positive places and N which hold
-- under a subtracted side.
abbrev mutual
  pub Body : List TupleValue → (FactValue → Type 0) → (FactValue → Type 0) → FactValue → Expression → Type 0
  Body store P N f this =
      IsStored store f.set (Id f.user) ⊎ ((g : SetValue) × IsStored store f.set (Set g) × P (same_user f g))
  Body store P N f (computed q) = P (same_user f (with_relation f.set q))
  Body store P N f (tuple_to q c) =
      (g : SetValue) × IsStored store (with_relation f.set q) (Set g) × P (same_user f (with_relation g c))
  Body store P N f (union es) = SomeBody store P N f es
  Body store P N f (inter es) = EachBody store P N f es
  Body store P N f (minus a b) = Body store P N f a × ¬ Body store N N f b

  pub SomeBody : List TupleValue → (FactValue → Type 0) → (FactValue → Type 0) → FactValue → Expressions → Type 0
  SomeBody store P N f no_child = ⊥
  SomeBody store P N f (child e es) = Body store P N f e ⊎ SomeBody store P N f es

  pub EachBody : List TupleValue → (FactValue → Type 0) → (FactValue → Type 0) → FactValue → Expressions → Type 0
  EachBody store P N f no_child = Unit {0}
  EachBody store P N f (child e es) = Body store P N f e × EachBody store P N f es

-- what holds after n rounds at stratum k, from what holds below it
abbrev pub Round : Lookup → List TupleValue → (FactValue → Type 0) → ℕ → ℕ → FactValue → Type 0
Round rules store below k zero f = below f
Round rules store below k (suc n) f =
    (r : Rule) × (rule_of rules f.set ≡ Some r) × (r.stratum ≤ k) × Body store (Round rules store below k n) below f r.expression

-- what holds at the strata below k: nothing below 0, and below k + 1 what holds after some round at k
abbrev pub Below : Lookup → List TupleValue → ℕ → FactValue → Type 0
Below rules store zero f = ⊥
Below rules store (suc k) f = (n : ℕ) × Round rules store (Below rules store k) k n f

-- f holds after n rounds at stratum k
abbrev pub At : Lookup → List TupleValue → ℕ → ℕ → FactValue → Type 0
At rules store k n f = Round rules store (Below rules store k) k n f

-- f holds at stratum k
abbrev pub In : Lookup → List TupleValue → ℕ → FactValue → Type 0
In rules store k f = (n : ℕ) × At rules store k n f

-- f's user is a member of f's userset
abbrev pub Member : Lookup → List TupleValue → FactValue → Type 0
Member rules store f = (r : Rule) × (rule_of rules f.set ≡ Some r) × In rules store r.stratum f

-- f holds first after some round of its own stratum, by what held one round before
pub record HasLeastRound (rules : Lookup) (store : List TupleValue) (f : FactValue) (r : Rule) : Type 0 where
  pub round : ℕ
  pub holds : At rules store r.stratum (round + 1) f
  pub least : (n : ℕ) → At rules store r.stratum n f → round + 1 ≤ n
  pub body : Body store (At rules store r.stratum round) (Below rules store r.stratum) f r.expression
