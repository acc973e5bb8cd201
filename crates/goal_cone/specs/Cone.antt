-- The cone of a goal: the facts on which its proof may rest.
use Rattle.std.specs.Prelude.{◌≡◌, List, [], ◌∷◌, Some, ◌⊎◌, Contains}
use Rattle.tuple_text.specs.Tuples.{TupleValue, FactValue}
use Rattle.namespaces.specs.Lookup.{Rule, Lookup, rule_of}
use Rattle.strata.specs.Strata.{EachPremise}
use Rattle.judgement.specs.Judgement.{IsUndeclared}
use Rattle.goal_cone.specs.Premises.{Reads}

-- the fact is one of C, or its userset is undeclared
abbrev pub IsMet : Lookup → List FactValue → FactValue → Type 0
IsMet rules C p = IsUndeclared rules p.set ⊎ Contains C p

-- each declared premise of f's rule is one of C
abbrev pub HasPremisesOf : Lookup → List TupleValue → List FactValue → FactValue → Type 0
HasPremisesOf rules store C f =
    (r : Rule) → rule_of rules f.set ≡ Some r → EachPremise store (IsMet rules C) (IsMet rules C) f r.expression

-- the same of each fact of C
abbrev pub HasItsPremises : Lookup → List TupleValue → List FactValue → Type 0
HasItsPremises rules store C = (f : FactValue) → Contains C f → HasPremisesOf rules store C f

-- f lies in each list of facts that holds the goal and its own premises
abbrev pub IsNeeded : Lookup → List TupleValue → FactValue → FactValue → Type 0
IsNeeded rules store goal f = (D : List FactValue) → Contains D goal → HasItsPremises rules store D → Contains D f

-- the least list of facts that holds the goal and its own premises
pub record IsCone (rules : Lookup) (store : List TupleValue) (goal : FactValue) (C : List FactValue) : Type 0 where
  pub holds_goal : Contains C goal
  pub premises : HasItsPremises rules store C
  pub least : (f : FactValue) → Contains C f → IsNeeded rules store goal f

-- a search for the cone: each fact seen is needed, and waits or has its premises seen
pub record IsExploring (rules : Lookup) (store : List TupleValue) (goal : FactValue) (seen todo : List FactValue) :
    Type 0 where
  pub holds_goal : Contains seen goal
  pub least : (f : FactValue) → Contains seen f → IsNeeded rules store goal f
  pub explored : (f : FactValue) → Contains seen f → Contains todo f ⊎ HasPremisesOf rules store seen f

-- p is declared, and f's rule reads it
abbrev pub IsPremise : Lookup → List TupleValue → FactValue → FactValue → Type 0
IsPremise rules store f p =
    (¬ IsUndeclared rules p.set) × ((r : Rule) × (rule_of rules f.set ≡ Some r) × Reads store f r.expression p)

-- nothing stands in two places
abbrev pub AreDistinct : {X : Type 0} → List X → Type 0
AreDistinct [] = Unit {0}
AreDistinct (x ∷ xs) = (¬ Contains xs x) × AreDistinct xs

-- what is in the one list is f or in the other
abbrev pub LosesOnly : FactValue → List FactValue → List FactValue → Type 0
LosesOnly f old new = (g : FactValue) → Contains old g → (f ≡ g) ⊎ Contains new g
