-- The text of a record has no newline.
use Rattle.std.proofs.Common.{◌≡◌, ℕ, zero, suc, ◌<◌, ◌^◌, Bool, true, false, ◌&&◌, List, [], ◌∷◌, map, decimal, inl, inr, refl, arith}
use Rattle.std.proofs.lemmas.Bool.{and_parts, cases_lt, cases_eq, ne_eqb}
use Rattle.std.proofs.lemmas.Fmt.{decimal_is_IsNumeral}
use Rattle.std.proofs.lemmas.Grind.{common_steps}
use Rattle.std.specs.Char.{digit_value}
use Rattle.std.specs.Str.Parse.{AllDigits}
use Rattle.json.specs.Print.{escape_byte, escape, quoted}
use Rattle.json.proofs.Printed.Strings.{escape_byte_plain}
use Rattle.json_lines.specs.Lines.{lacks}
use Rattle.json_lines.proofs.Steps.{lacks_more}
use Rattle.serde_json.specs.View.{items_of}
use Rattle.serde_json.specs.Written.{compact_text, items_text}
use Rattle.tuple_text.specs.Grammar.{fact_text}
use Rattle.tuple_text.specs.Tuples.{FactValue}
use Rattle.evidence_check.specs.RecordData.{fact_data, step_data}
use Rattle.evidence_check.specs.Steps.{StepValue, yes_step, no_step}
use Rattle.record_text.specs.Record.{record_text}

-- ---- what stands for a byte

abbrev all_below : ℕ → Bool
all_below zero = true
all_below (suc n) = lacks (escape_byte n) && all_below n

one_below : (n : ℕ) → all_below n ≡ true → (x : ℕ) → x < n → lacks (escape_byte x) ≡ true
one_below zero e x h = absurd (omega arith)
one_below (suc n) e x h =
    let p = and_parts (lacks (escape_byte n)) (all_below n) e in
    elim (cases_eq x n) [ inl same ↦ rw same p.0 | inr other ↦ one_below n p.1 x (omega arith) ]

each_below : all_below 128 ≡ true
unfolding escape_byte
each_below = refl

itself : (x : ℕ) → (x ≡ 10 → ⊥) → lacks (x ∷ []) ≡ true
itself x other = rw (ne_eqb x 10 other) refl

byte_lacks : (x : ℕ) → lacks (escape_byte x) ≡ true
byte_lacks x = elim (cases_lt x 128) [
  | inl low ↦ one_below 128 each_below x low
  | inr high ↦ rw (escape_byte_plain x (λ e. omega arith) (λ e. omega arith) (omega arith)) (itself x (λ e. omega arith))
]

escape_lacks : (s : List ℕ) → lacks (escape s) ≡ true
escape_lacks [] = refl
escape_lacks (x ∷ xs) = lacks_more (escape_byte x) (escape xs) (byte_lacks x) (escape_lacks xs)

quoted_lacks : (s : List ℕ) → lacks (quoted s) ≡ true
quoted_lacks s = lacks_more (escape s) (34 ∷ []) (escape_lacks s) refl

digits_lack : (ds : List ℕ) → AllDigits 10 ds → lacks ds ≡ true
digits_lack [] h = refl
digits_lack (d ∷ ds) h =
    let digit : digit_value d < 10 = h.0 in
    lacks_more (d ∷ []) ds (itself d (λ e. grind (arith, common_steps, e, digit))) (digits_lack ds h.1)

-- ---- the parts of a record

fact_lacks : (f : FactValue) → lacks (compact_text (fact_data f)) ≡ true
fact_lacks f = quoted_lacks (fact_text f)

facts_lack : (later : Bool) (fs : List FactValue) → lacks (items_text later (items_of (map fact_data fs))) ≡ true
facts_lack later [] = refl
facts_lack true (f ∷ fs) = lacks_more (compact_text (fact_data f)) _ (fact_lacks f) (facts_lack true fs)
facts_lack false (f ∷ fs) = lacks_more (compact_text (fact_data f)) _ (fact_lacks f) (facts_lack true fs)

step_lacks : (s : StepValue) → lacks (compact_text (step_data s)) ≡ true
unfolding escape_byte
step_lacks (yes_step f) = lacks_more (compact_text (fact_data f)) (125 ∷ []) (fact_lacks f) refl
step_lacks (no_step fs) = lacks_more (items_text false (items_of (map fact_data fs))) (125 ∷ []) (facts_lack false fs) refl

steps_lack : (later : Bool) (ss : List StepValue) → lacks (items_text later (items_of (map step_data ss))) ≡ true
steps_lack later [] = refl
steps_lack true (s ∷ ss) = lacks_more (compact_text (step_data s)) _ (step_lacks s) (steps_lack true ss)
steps_lack false (s ∷ ss) = lacks_more (compact_text (step_data s)) _ (step_lacks s) (steps_lack true ss)

pub record_lacks : (line : ℕ) (steps : List StepValue) → line < 2 ^ 64 → lacks (record_text line steps) ≡ true
unfolding escape_byte
record_lacks line steps fits =
    lacks_more (decimal line) _ (digits_lack (decimal line) (decimal_is_IsNumeral line fits).0.1)
    (lacks_more (items_text false (items_of (map step_data steps))) (125 ∷ []) (steps_lack false steps) refl)
