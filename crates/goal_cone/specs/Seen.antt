-- What a pass over premises adds to the facts that were seen. No public clause cites this module.
use Rattle.std.specs.Prelude.{◌≡◌, ℕ, List, ◌++◌, Contains}
use Rattle.tuple_text.specs.Tuples.{TupleValue, FactValue}
use Rattle.namespaces.specs.Lookup.{Lookup}
use Rattle.judgement.specs.Judgement.{IsUndeclared}
use Rattle.goal_cone.specs.Bounds.{IsOutgrown}
use Rattle.goal_cone.specs.Cone.{IsMet, IsNeeded, AreDistinct}

-- each fact that meets R is seen or undeclared, and what is new meets R and is declared
pub record Sees (rules : Lookup) (R : FactValue → Type 0) (old new : List FactValue) : Type 0 where
  pub met : (p : FactValue) → R p → IsMet rules new p
  pub more : List FactValue
  pub split : new ≡ old ++ more
  pub each : (p : FactValue) → Contains more p → (¬ IsUndeclared rules p.set) × R p
  pub distinct : AreDistinct old → AreDistinct new

-- where the goal needs what was seen and each declared fact that meets R, it has outgrown the bounds
abbrev pub IsStuck : ℕ → ℕ → Lookup → List TupleValue → (FactValue → Type 0) → List FactValue → Type 0
IsStuck most_facts most_links rules store R seen =
    (goal : FactValue) → AreDistinct seen → ((f : FactValue) → Contains seen f → IsNeeded rules store goal f) →
    ((p : FactValue) → (¬ IsUndeclared rules p.set) → R p → IsNeeded rules store goal p) →
    IsOutgrown most_facts most_links rules store goal
