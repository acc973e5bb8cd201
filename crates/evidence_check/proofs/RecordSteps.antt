-- What the reader of evidence makes of the record of some steps.
use Rattle.std.proofs.Common.{◌≡◌, ℕ, true, List, [], ◌∷◌, map, Some, Result, Ok, refl, ap, ◌∙◌}
use Rattle.std.specs.List.{AllByRecursion}
use Rattle.serde_json.specs.Data.{Data}
use Rattle.serde_json.specs.View.{items_of}
use Rattle.tuple_text.specs.Grammar.{IsFact}
use Rattle.tuple_text.specs.Tuples.{FactValue}
use Rattle.tuple_text.proofs.GrammarLaws.{fact_again}
use Rattle.refusals.specs.Refusals.{◌>>=◌, needed}
use Rattle.json_lines.specs.Fields.{are_strings}
use Rattle.json_lines.specs.Json.{of_json}
use Rattle.evidence_check.specs.Reading.{facts_in, steps_in, is_known, are_known, is_step, are_shaped, steps_at, record_steps, record_in, record_of_text, place_of, placed_steps}
use Rattle.evidence_check.specs.RecordData.{fact_data, step_data, record_data, HaveFacts}
use Rattle.evidence_check.specs.RecordPieces.{IsRecord}
use Rattle.evidence_check.specs.Steps.{RecordValue, StepValue, yes_step, no_step}
use Rattle.evidence_check.specs.declared.cause.EvidenceCause.{EvidenceCause}
use Rattle.evidence_check.specs.declared.cause.EvidenceCause.TheVariants as causes

are_texts : (fs : List FactValue) → are_strings (items_of (map fact_data fs)) ≡ true
are_texts [] = refl
are_texts (f ∷ fs) = are_texts fs

step_shaped : (s : StepValue) → is_step (step_data s) ≡ true
step_shaped (yes_step f) = refl
step_shaped (no_step fs) = are_texts fs

steps_shaped : (ss : List StepValue) → are_shaped (items_of (map step_data ss)) ≡ true
steps_shaped [] = refl
steps_shaped (s ∷ ss) = rw (step_shaped s, steps_shaped ss) refl

step_known : (s : StepValue) → is_known (step_data s) ≡ true
step_known (yes_step f) = refl
step_known (no_step fs) = refl

steps_known : (ss : List StepValue) → are_known (items_of (map step_data ss)) ≡ true
steps_known [] = refl
steps_known (s ∷ ss) = rw (step_known s, steps_known ss) refl

facts_read : (fs : List FactValue) → AllByRecursion IsFact fs → facts_in (items_of (map fact_data fs)) ≡ Ok fs
facts_read [] h = refl
facts_read (f ∷ fs) h = rw (fact_again f h.0, facts_read fs h.1) refl

steps_read : (ss : List StepValue) → HaveFacts ss → steps_in (items_of (map step_data ss)) ≡ Ok ss
steps_read [] h = refl
steps_read (yes_step f ∷ ss) h = rw (fact_again f h.0, steps_read ss h.1) refl
steps_read (no_step fs ∷ ss) h = rw (facts_read fs h.0, steps_read ss h.1) refl

at_steps : (line : ℕ) (steps : List StepValue)
    → steps_at (record_data line steps) ≡ Some (items_of (map step_data steps))
unfolding steps_at
at_steps line steps = rw (steps_shaped steps) refl

abbrev pub placed : List StepValue → ℕ → Result (ℕ × List StepValue) EvidenceCause
placed steps place = Ok (place, steps)

pub data_placed : (lines : List ℕ) (line : ℕ) (steps : List StepValue) → HaveFacts steps
    → placed_steps lines (record_data line steps) ≡ (needed causes.StrayLine (place_of line lines) >>= placed steps)
unfolding placed_steps
data_placed lines line steps facts = rw (at_steps line steps, steps_read steps facts, steps_known steps) refl

-- ---- the record by itself

data_read : (line : ℕ) (steps : List StepValue) → HaveFacts steps
    → record_in (record_data line steps) ≡ Ok (record { line = line; steps = steps })
unfolding record_in record_steps
data_read line steps facts = rw (at_steps line steps, steps_read steps facts, steps_known steps) refl

-- a text that is read as the record
pub text_read : (text : List ℕ) (line : ℕ) (steps : List StepValue) → IsRecord text line steps
    → record_of_text text ≡ Ok (record { line = line; steps = steps })
text_read text line steps is = ap (of_json causes.NotJson record_in) is.record_read ∙ data_read line steps is.facts
