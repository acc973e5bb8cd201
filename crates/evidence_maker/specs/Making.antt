-- The state of a maker.
use Rattle.std.specs.Prelude.{◌≡◌, ℕ, ◌≤◌, List, length, Option, Some, option_map, ◌⊎◌, ◌↔◌, Contains}
use Rattle.tuple_text.specs.Tuples.{TupleValue, FactValue}
use Rattle.namespaces.specs.Lookup.{Rule, Lookup, rule_at, rule_of}
use Rattle.version_chains.specs.Commits.{store_at}
use Rattle.trace_lines.specs.Values.{TraceValue}
use Rattle.judgement.specs.Judgement.{KnownValue}
use Rattle.evidence_check.specs.Accepted.{nothing_known, after_steps, AreAccepted, IsProved}
use Rattle.evidence_check.specs.Growing.{Grows}
use Rattle.evidence_check.specs.Steps.{StepValue}
use Rattle.goal_cone.specs.Cone.{AreDistinct}
use Rattle.evidence_maker.specs.Saturation.{IsSaturating, IsSparing}
use Rattle.evidence_maker.specs.Settled.{IsSettled}

-- the steps so far settle the facts of C below the stratum k, and what is known is what they made known
pub record IsMaking (rules : Lookup) (store : List TupleValue) (C : List FactValue) (k : ℕ) (known : KnownValue)
    (steps : List StepValue) : Type 0 where
  pub saturating : IsSaturating rules store C k steps
  pub known_after : known ≡ after_steps nothing_known steps
  pub sparing : IsSparing C steps

-- so it is by the rules and the tuples of a trace at a timestamp
abbrev pub IsMakingAt : TraceValue → ℕ → List FactValue → ℕ → KnownValue → List StepValue → Type 0
IsMakingAt t at C k known steps = IsMaking (rule_at t.declarations at) (store_at t.commits at) C k known steps

abbrev pub IsKnown : KnownValue → FactValue → Type 0
IsKnown known f = Contains known.yes f ⊎ Contains known.no f

-- R has the facts of the list that meet Q, and none twice where the list has none twice
pub record AreThose (Q : FactValue → Type 0) (fs R : List FactValue) : Type 0 where
  pub each : (f : FactValue) → (Contains R f ↔ (Contains fs f × Q f))
  pub distinct : AreDistinct fs → AreDistinct R

-- the fact is declared, and of the stratum k
abbrev pub HasStratum : Lookup → ℕ → FactValue → Type 0
HasStratum rules k f = (r : Rule) × (rule_of rules f.set ≡ Some r) × (r.stratum ≡ k)

-- the stratum of the fact, where it is declared
abbrev pub stratum_of : Lookup → FactValue → Option ℕ
stratum_of rules f = option_map (λ (r : Rule). r.stratum) (rule_of rules f.set)

-- R has facts of the list, and the others have become known; where all are in R, nothing has, and R's are unknown and
-- unproved
pub record IsSifted (rules : Lookup) (store : List TupleValue) (old new : KnownValue) (fs R : List FactValue) :
    Type 0 where
  pub inside : (f : FactValue) → Contains R f → Contains fs f
  pub others : (f : FactValue) → Contains fs f → IsKnown new f ⊎ Contains R f
  pub distinct : AreDistinct fs → AreDistinct R
  pub shorter : length R ≤ length fs
  pub grows : Grows old new
  pub same : length R ≡ length fs → (new ≡ old)
      × ((f : FactValue) → Contains R f → (¬ IsKnown old f) × (¬ IsProved rules store old f))

-- R has facts of the list, and the others are known
pub record HasLeft (known : KnownValue) (fs R : List FactValue) : Type 0 where
  pub inside : (f : FactValue) → Contains R f → Contains fs f
  pub others : (f : FactValue) → Contains fs f → IsKnown known f ⊎ Contains R f
  pub distinct : AreDistinct fs → AreDistinct R

-- R has the facts of the list that are unknown, and none of them is proved
pub record AreLeft (rules : Lookup) (store : List TupleValue) (known : KnownValue) (fs R : List FactValue) :
    Type 0 where
  pub those : AreThose (λ f. ¬ IsKnown known f) fs R
  pub unproved : (f : FactValue) → Contains R f → ¬ IsProved rules store known f

-- the steps are accepted and settle each fact of C, and they speak of facts of C alone, and of none twice
pub record IsMade (rules : Lookup) (store : List TupleValue) (C : List FactValue) (steps : List StepValue) :
    Type 0 where
  pub accepted : AreAccepted rules store nothing_known steps
  pub settled : (f : FactValue) → Contains C f → IsSettled rules (after_steps nothing_known steps) f
  pub sparing : IsSparing C steps
