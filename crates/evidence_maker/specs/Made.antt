-- What is made for an entry.
use Rattle.std.specs.Prelude.{Bool, true, false, ◌≡◌, Some, [], ◌∷◌, ℕ, ◌≤◌, ◌<◌, ◌^◌, List, ◌⊎◌, Contains}
use Rattle.tuple_text.specs.Tuples.{FactValue}
use Rattle.namespaces.specs.Lookup.{rule_at}
use Rattle.version_chains.specs.Commits.{store_at}
use Rattle.trace_lines.specs.Values.{TraceValue, EntryValue}
use Rattle.evidence_check.specs.Accepted.{nothing_known, after_steps, AreAccepted, IsAccepted}
use Rattle.evidence_check.specs.Judged.{judged}
use Rattle.evidence_check.specs.Reading.{fact_count}
use Rattle.evidence_check.specs.Steps.{StepValue, yes_step, no_step, step_values}
use Rattle.evidence_check.specs.declared.records.TheConstants.{MAX_FACTS}
use Rattle.judgement.specs.Judgement.{IsUndeclared}
use Rattle.record_text.specs.Record.{record_length}
use Rattle.goal_cone.specs.Bounds.{IsOutgrown}
use Rattle.goal_cone.specs.Cone.{IsNeeded, AreDistinct}
use Rattle.goal_cone.specs.declared.premises.TheConstants.{MAX_LINKS}
use Rattle.evidence_maker.specs.Making.{IsKnown}
use Rattle.evidence_maker.specs.Saturation.{facts_of}
use Rattle.evidence_maker.specs.declared.maker.Made.{Made}

-- the steps are accepted in order, and after them it is known whether the goal holds
pub record Settles (t : TraceValue) (e : EntryValue) (steps : List StepValue) : Type 0 where
  pub accepted : AreAccepted (rule_at t.declarations e.snapshot) (store_at t.commits e.snapshot) nothing_known steps
  pub known : IsKnown (after_steps nothing_known steps) e.goal

-- a record for the entry on a line may hold the steps: at most 100,000 facts, and 2^20 bytes before its newline
abbrev pub Fits : ℕ → List StepValue → Type 0
Fits line steps = (fact_count steps ≤ 100000) × (record_length line steps ≤ 2 ^ 20)

-- the steps settle the entry, and its record may hold them
abbrev pub IsRecord : TraceValue → EntryValue → List StepValue → Type 0
IsRecord t e steps = Settles t e steps × Fits e.line steps

-- that a fact holds, or does not, said in one step
abbrev pub alone : Bool → FactValue → List StepValue
alone true f = yes_step f ∷ []
alone false f = no_step (f ∷ []) ∷ []

-- from nothing it is accepted that the goal holds, or that it does not
abbrev pub IsOneStep : TraceValue → EntryValue → Type 0
IsOneStep t e =
    IsAccepted (rule_at t.declarations e.snapshot) (store_at t.commits e.snapshot) nothing_known (yes_step e.goal)
    ⊎ IsAccepted (rule_at t.declarations e.snapshot) (store_at t.commits e.snapshot) nothing_known
    (no_step (e.goal ∷ []))

-- The record of the goal's whole cone is longer than 2^20 bytes: of steps that settle the entry, speak of each declared
-- fact of the cone, of none outside it, of none twice, and each of some fact.
pub record IsTooLong (t : TraceValue) (e : EntryValue) : Type 0 where
  pub steps : List StepValue
  pub settles : Settles t e steps
  pub whole : (f : FactValue) → ¬ IsUndeclared (rule_at t.declarations e.snapshot) f.set
      → IsNeeded (rule_at t.declarations e.snapshot) (store_at t.commits e.snapshot) e.goal f
      → Contains (facts_of steps) f
  pub needed : (f : FactValue) → Contains (facts_of steps) f
      → IsNeeded (rule_at t.declarations e.snapshot) (store_at t.commits e.snapshot) e.goal f
  pub distinct : AreDistinct (facts_of steps)
  pub filled : ¬ Contains steps (no_step [])
  pub long : 2 ^ 20 < record_length e.line steps

-- one step is not enough, and the goal outgrows the search, or the record of its whole cone is too long for a line;
-- this is of the trace, whatever was tried
abbrev pub IsOutOfReach : TraceValue → EntryValue → Type 0
IsOutOfReach t e =
    (¬ IsOneStep t e)
    × (IsOutgrown MAX_FACTS MAX_LINKS (rule_at t.declarations e.snapshot) (store_at t.commits e.snapshot) e.goal
    ⊎ IsTooLong t e)

-- the steps settle the entry, its record may hold them, and they judge it so
pub record IsMadeFor (t : TraceValue) (e : EntryValue) (m : Made) : Type 0 where
  pub settles : Settles t e (step_values m.steps.items)
  pub fits : Fits e.line (step_values m.steps.items)
  pub judges : m.judged ≡ judged t e (Some (step_values m.steps.items))
