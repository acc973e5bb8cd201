-- Which steps are accepted, by the rules in force and the tuples stored at a snapshot.
use Rattle.std.specs.Prelude.{◌≡◌, List, [], ◌∷◌, ◌++◌, Some, ◌⊎◌, Contains}
use Rattle.std.specs.List.{AllByRecursion}
use Rattle.tuple_text.specs.Tuples.{TupleValue, FactValue}
use Rattle.namespaces.specs.Lookup.{Rule, Lookup, rule_of}
use Rattle.strata.specs.Meaning.{Member}
use Rattle.judgement.specs.Judgement.{KnownValue, IsUndeclared, Established, Refuted}
use Rattle.evidence_check.specs.Steps.{StepValue, yes_step, no_step}

abbrev pub nothing_known : KnownValue
nothing_known = record { yes = []; no = [] }

abbrev pub with_yes : KnownValue → FactValue → KnownValue
with_yes known f = record known { yes = known.yes ++ f ∷ [] }

abbrev pub with_no : KnownValue → List FactValue → KnownValue
with_no known fs = record known { no = known.no ++ fs }

-- the fact's relation is declared, and its rule gives the fact from what is known
abbrev pub IsProved : Lookup → List TupleValue → KnownValue → FactValue → Type 0
IsProved rules store known f =
    (r : Rule) × (rule_of rules f.set ≡ Some r) × Established rules store known f r.expression

-- the fact's relation is undeclared, or its rule cannot give the fact by what is known
abbrev pub IsDisproved : Lookup → List TupleValue → KnownValue → FactValue → Type 0
IsDisproved rules store known f =
    IsUndeclared rules f.set
    ⊎ ((r : Rule) × (rule_of rules f.set ≡ Some r) × Refuted rules store known f r.expression)

-- A fact that is said to hold is proved from what is known before. Facts that are said not to hold are each disproved
-- by what is known before and by all of themselves.
abbrev pub IsAccepted : Lookup → List TupleValue → KnownValue → StepValue → Type 0
IsAccepted rules store known (yes_step f) = IsProved rules store known f
IsAccepted rules store known (no_step fs) = AllByRecursion (IsDisproved rules store (with_no known fs)) fs

-- what is known after a step
abbrev pub after_step : KnownValue → StepValue → KnownValue
after_step known (yes_step f) = with_yes known f
after_step known (no_step fs) = with_no known fs

abbrev pub after_steps : KnownValue → List StepValue → KnownValue
after_steps known [] = known
after_steps known (s ∷ ss) = after_steps (after_step known s) ss

-- each step is accepted by what is known before it
abbrev pub AreAccepted : Lookup → List TupleValue → KnownValue → List StepValue → Type 0
AreAccepted rules store known [] = Unit {0}
AreAccepted rules store known (s ∷ ss) = IsAccepted rules store known s
    × AreAccepted rules store (after_step known s) ss

-- what is known to hold are members, and what is known not to are none
pub record IsTrueOf (rules : Lookup) (store : List TupleValue) (known : KnownValue) : Type 0 where
  pub yes : (f : FactValue) → Contains known.yes f → Member rules store f
  pub no : (f : FactValue) → Contains known.no f → ¬ Member rules store f
