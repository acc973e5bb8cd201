-- The text of a record is read as the record.
use Rattle.std.proofs.Common.{◌≡◌, ℕ, ◌<◌, ◌≤◌, ◌^◌, List, [], ◌∷◌, map, Some, refl, arith}
use Rattle.json.specs.Tree.{depth, items_depth, HasNumbers, ItemsHaveNumbers}
use Rattle.json.proofs.Printed.Decimals.{IsNumber-decimal}
use Rattle.serde_json.specs.Read.{of_json, of_items, max_depth, read}
use Rattle.serde_json.specs.View.{items_of}
use Rattle.serde_json.specs.Written.{outline, items_outline, compact_text}
use Rattle.serde_json.proofs.Numbers.{number_of-decimal}
use Rattle.tuple_text.specs.Grammar.{fact_text}
use Rattle.compact_json.proofs.Compact.{read_compact, texts_are_flat, texts_have_numbers, texts_make}
use Rattle.evidence_check.specs.RecordData.{step_data, record_data}
use Rattle.evidence_check.specs.Steps.{StepValue, yes_step, no_step}

-- ---- it can be written

step_has_numbers : (s : StepValue) → HasNumbers (outline (step_data s))
step_has_numbers (yes_step f) = (tt, tt)
step_has_numbers (no_step fs) = (texts_have_numbers fact_text fs, tt)

steps_have_numbers : (ss : List StepValue) → ItemsHaveNumbers (items_outline (items_of (map step_data ss)))
steps_have_numbers [] = tt
steps_have_numbers (s ∷ ss) = (step_has_numbers s, steps_have_numbers ss)

step_is_shallow : (s : StepValue) → depth (outline (step_data s)) ≤ 2
step_is_shallow (yes_step f) = omega arith
step_is_shallow (no_step fs) = omega (arith, texts_are_flat fact_text fs)

steps_are_shallow : (ss : List StepValue) → items_depth (items_outline (items_of (map step_data ss))) ≤ 2
steps_are_shallow [] = omega arith
steps_are_shallow (s ∷ ss) = omega (arith, step_is_shallow s, steps_are_shallow ss)

-- ---- its JSON stands for it

step_back : (s : StepValue) → of_json (outline (step_data s)) ≡ Some (step_data s)
step_back (yes_step f) = refl
step_back (no_step fs) = rw (texts_make fact_text fs) refl

steps_back : (ss : List StepValue)
    → of_items (items_outline (items_of (map step_data ss))) ≡ Some (items_of (map step_data ss))
steps_back [] = refl
steps_back (s ∷ ss) = rw (step_back s, steps_back ss) refl

record_back : (line : ℕ) (steps : List StepValue) → line < 2 ^ 64
    → of_json (outline (record_data line steps)) ≡ Some (record_data line steps)
record_back line steps fits = rw (number_of-decimal line fits, steps_back steps) refl

pub read-record : (line : ℕ) (steps : List StepValue) → line < 2 ^ 64
    → read (compact_text (record_data line steps)) ≡ Some (record_data line steps)
read-record line steps fits =
    let d = record_data line steps in
    let numbers : HasNumbers (outline d) = (IsNumber-decimal line fits, (steps_have_numbers steps, tt)) in
    let shallow : depth (outline d) ≤ max_depth = omega (arith, steps_are_shallow steps) in
    read_compact d d numbers shallow (record_back line steps fits)
