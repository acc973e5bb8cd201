-- Evidence that is found stratum by stratum.
use Rattle.std.specs.Prelude.{◌≡◌, ℕ, List, [], ◌∷◌, ◌++◌, Some, ◌⊎◌, ◌↔◌, Contains}
use Rattle.tuple_text.specs.Tuples.{TupleValue, FactValue}
use Rattle.namespaces.specs.Lookup.{Rule, Lookup, rule_of}
use Rattle.strata.specs.Strata.{EachPremise, IsAtMost, IsLower}
use Rattle.judgement.specs.Judgement.{KnownValue}
use Rattle.evidence_check.specs.Accepted.{nothing_known, after_steps, AreAccepted, IsProved}
use Rattle.evidence_check.specs.Steps.{StepValue, yes_step, no_step}
use Rattle.goal_cone.specs.Cone.{AreDistinct}
use Rattle.evidence_maker.specs.Settled.{IsSettled}

-- no fact of R is settled or proved, and their premises are settled or facts of R, settled under a subtracted side
pub record IsLeftOver (rules : Lookup) (store : List TupleValue) (known : KnownValue) (R : List FactValue) :
    Type 0 where
  pub unsettled : (f : FactValue) → Contains R f → ¬ IsSettled rules known f
  pub unproved : (f : FactValue) → Contains R f → ¬ IsProved rules store known f
  pub premises : (f : FactValue) → Contains R f → (r : Rule) → rule_of rules f.set ≡ Some r →
      EachPremise store (λ p. IsSettled rules known p ⊎ Contains R p) (IsSettled rules known) f r.expression

-- the facts of C of the strata up to k that are not settled
abbrev pub AreUnsettled : Lookup → KnownValue → List FactValue → ℕ → List FactValue → Type 0
AreUnsettled rules known C k R =
    (f : FactValue) → (Contains R f ↔ (Contains C f × IsAtMost rules k f × ¬ IsSettled rules known f))

-- the steps are accepted, and settle the facts of C of the strata below k
pub record IsSaturating (rules : Lookup) (store : List TupleValue) (C : List FactValue) (k : ℕ)
    (steps : List StepValue) : Type 0 where
  pub accepted : AreAccepted rules store nothing_known steps
  pub below : (f : FactValue) → Contains C f → IsLower rules k f → IsSettled rules (after_steps nothing_known steps) f

-- some steps are accepted and settle each fact of C
pub record HasEvidence (rules : Lookup) (store : List TupleValue) (C : List FactValue) : Type 0 where
  pub steps : List StepValue
  pub accepted : AreAccepted rules store nothing_known steps
  pub settled : (f : FactValue) → Contains C f → IsSettled rules (after_steps nothing_known steps) f

-- the facts that steps speak of
abbrev pub facts_of : List StepValue → List FactValue
facts_of [] = []
facts_of (yes_step f ∷ ss) = f ∷ facts_of ss
facts_of (no_step fs ∷ ss) = fs ++ facts_of ss

-- the steps speak of facts of C alone, of none twice, and each of some fact
pub record IsSparing (C : List FactValue) (steps : List StepValue) : Type 0 where
  pub inside : (f : FactValue) → Contains (facts_of steps) f → Contains C f
  pub distinct : AreDistinct (facts_of steps)
  pub filled : ¬ Contains steps (no_step [])
