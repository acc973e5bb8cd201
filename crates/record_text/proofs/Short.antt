-- The text of a fact is short, and so is the record of one.
use Rattle.std.proofs.Common.{◌≡◌, ℕ, ◌*◌, ◌≤◌, ◌<◌, ◌^◌, Bool, true, false, nat_lt, nat_le, List, [], ◌∷◌, length, length-append, decimal, refl, cond, arith}
use Rattle.std.proofs.lemmas.Bool.{ltb-true, leb-true}
use Rattle.std.proofs.lemmas.Fmt.{length-decimal-le}
use Rattle.json.specs.Print.{escape_letter, escape_byte, escape}
use Rattle.serde_json.specs.Written.{compact_text}
use Rattle.tuple_text.specs.Forms.{is_name, is_object_id}
use Rattle.tuple_text.specs.Grammar.{IsFact}
use Rattle.tuple_text.specs.Tuples.{FactValue}
use Rattle.evidence_check.specs.RecordData.{fact_data, facts_data, steps_data, step_data}
use Rattle.evidence_check.specs.Steps.{yes_step, no_step}
use Rattle.record_text.specs.Record.{record_length}
use Rattle.record_text.proofs.Lengths.{fact_length, length-array, yes_length, no_length, record_length_by_parts}

byte_short : (x : ℕ) → length (escape_byte x) ≤ 6
unfolding escape_byte
byte_short x = by_cases (nat_lt 0 (escape_letter x)) (nat_lt x 32) _ _
  where
    by_cases : (a b : Bool) (high low : ℕ) → length (cond a (92 ∷ escape_letter x ∷ []) (cond b (92 ∷ 117 ∷ 48 ∷ 48 ∷ high ∷ low ∷ []) (x ∷ []))) ≤ 6
    by_cases true b high low = omega arith
    by_cases false true high low = omega arith
    by_cases false false high low = omega arith

escape_short : (xs : List ℕ) → length (escape xs) ≤ 6 * length xs
escape_short [] = omega arith
escape_short (x ∷ xs) = let le = byte_short x in let rest = escape_short xs in omega (arith, length-append (escape_byte x) (escape xs))

name_short : (xs : List ℕ) → is_name xs ≡ true → length xs ≤ 64
name_short [] e = omega arith
name_short (x ∷ xs) e = by_test (nat_lt (length xs) 64) refl
  where
    by_test : (b : Bool) → nat_lt (length xs) 64 ≡ b → length (x ∷ xs) ≤ 64
    by_test true f = let lt = ltb-true (length xs) 64 f in omega (arith, lt)
    by_test false f = absurd (let g : is_name (x ∷ xs) ≡ false = grind (arith, f) in cc)

id_short : (xs : List ℕ) → is_object_id xs ≡ true → length xs ≤ 128
id_short xs e = by_test (nat_le (length xs) 128) refl
  where
    by_test : (b : Bool) → nat_le (length xs) 128 ≡ b → length xs ≤ 128
    by_test true f = leb-true (length xs) 128 f
    by_test false f = absurd (let g : is_object_id xs ≡ false = grind (arith, f) in cc)

fact_short : (f : FactValue) → IsFact f → length (compact_text (fact_data f)) ≤ 4000
fact_short f h =
    let a = escape_short f.set.namespace in
    let b = escape_short f.set.id in
    let c = escape_short f.set.relation in
    let d = escape_short (decimal f.user) in
    let n = name_short f.set.namespace h.head.set.namespace in
    let i = id_short f.set.id h.head.set.id in
    let r = name_short f.set.relation h.head.relation in
    let lt : f.user < 10 ^ 20 = omega (arith, h.user) in
    let u = length-decimal-le 20 f.user (omega arith) lt h.user in
    omega (arith, fact_length f)

-- ---- the record of one step

pub yes_short : (line : ℕ) (f : FactValue) → line < 2 ^ 64 → IsFact f → record_length line (yes_step f ∷ []) ≤ 2 ^ 20
yes_short line f lt h =
    let le = fact_short f h in
    let ten : line < 10 ^ 20 = omega (arith, lt) in
    let d = length-decimal-le 20 line (omega arith) ten lt in
    omega (arith, record_length_by_parts line (steps_data (yes_step f ∷ [])), length-array (step_data (yes_step f)) [], yes_length (fact_data f))

pub no_short : (line : ℕ) (f : FactValue) → line < 2 ^ 64 → IsFact f → record_length line (no_step (f ∷ []) ∷ []) ≤ 2 ^ 20
no_short line f lt h =
    let le = fact_short f h in
    let ten : line < 10 ^ 20 = omega (arith, lt) in
    let d = length-decimal-le 20 line (omega arith) ten lt in
    omega (arith, record_length_by_parts line (steps_data (no_step (f ∷ []) ∷ [])), length-array (step_data (no_step (f ∷ []))) [], no_length (facts_data (f ∷ [])), length-array (fact_data f) [])
