-- Numbers in decimal digits.
use Rattle.std.proofs.Common.{◌≡◌, ℕ, ◌+◌, ◌-◌, ◌*◌, ◌^◌, ◌<◌, ◌≤◌, if◌then◌else◌, take, Bool, true, false, ltb, eqb, not, ◌&&◌, ◌||◌, List, [], ◌∷◌, length, get_or, leb, Some, None, true≢false, Result, Ok, Err, rules, arith, refl, sym, subst, ap, ◌∙◌, inl, inr}
use Rattle.std.specs.Char.{is_ascii_digit}
use Rattle.std.specs.Fmt.{decimal}
use Rattle.std.specs.List.{list_all}
use Rattle.std.specs.Result.{result_ok}
use Rattle.std.specs.Str.Parse.{digits_value, IsNumeral, ParsesUnsigned}
use Rattle.std.proofs.lemmas.Bool.{leb-true, ltb-true, lt-ltb, eqb-false, ne_eqb, and_parts, and_from, or_cases, or_left, or_right, not_from_false, cases_Bool, cases_lt}
use Rattle.std.proofs.lemmas.Fmt.{digits_decimal, digits_value-decimal, decimal-digits_value, decimal_nonempty, decimal_digit, first_decimal}
use Rattle.std.proofs.lemmas.List.Sums.{AllPass-from_list_all}
use Rattle.std.proofs.lemmas.Option.{cond_some}
use Rattle.std.proofs.lemmas.Int.Digits.{digits_value_more}
use Rattle.std.proofs.lemmas.Str.{digit_value_digit}
use Rattle.std.proofs.lemmas.List.{length-take}
use Rattle.std.proofs.lemmas.Str.Parse.{digits_value_short, IsNumeralModel, numerals_by_value, parse_digits, without_leading_plus_none}
use Rattle.tuple_text.specs.Forms.{begins_plainly, is_plain, plain_number}

pub own : IsNumeralModel (λ ds. list_all is_ascii_digit ds ≡ true) (digits_value 10)
own = numerals_by_value (λ ds. list_all is_ascii_digit ds ≡ true) (search rules)

not_true : (b : Bool) → not b ≡ true → b ≡ false
not_true true e = absurd cc
not_true false e = refl

-- the three tests of a plain number
pub record Plain (bs : List ℕ) : Type 0 where
  pub digits : list_all is_ascii_digit bs ≡ true
  pub some : 0 < length bs
  pub front : get_or bs 0 0 ≡ 48 → length bs ≡ 1

short : (bs : List ℕ) → 0 < length bs → (ltb (length bs) 2 || not (eqb (get_or bs 0 0) 48)) ≡ true → get_or bs 0 0 ≡ 48 → length bs ≡ 1
short bs some e zero_first =
    elim (or_cases (ltb (length bs) 2) (not (eqb (get_or bs 0 0) 48)) e) [
      | inl h ↦ let lt : length bs < 2 = ltb-true _ _ h in omega arith
      | inr h ↦ absurd (eqb-false _ _ (not_true _ h) zero_first)
    ]

pub plain_is : (bs : List ℕ) → is_plain bs ≡ true → Plain bs
plain_is bs e =
    let a = and_parts (list_all is_ascii_digit bs && not (eqb (length bs) 0)) (ltb (length bs) 2 || not (eqb (get_or bs 0 0) 48)) e in
    let b = and_parts (list_all is_ascii_digit bs) (not (eqb (length bs) 0)) a.0 in
    let ne : length bs ≡ 0 → ⊥ = eqb-false _ _ (not_true _ b.1) in
    let some : 0 < length bs = omega (arith, ne) in
    record { digits = b.0; some = some; front = short bs some a.1 }

one_or_other : (bs : List ℕ) → (get_or bs 0 0 ≡ 48 → length bs ≡ 1) → (ltb (length bs) 2 || not (eqb (get_or bs 0 0) 48)) ≡ true
one_or_other bs h =
    elim (cases_lt (length bs) 2) [
      | inl lt ↦ or_left (ltb (length bs) 2) (not (eqb (get_or bs 0 0) 48)) (lt-ltb _ _ lt)
      | inr le ↦ or_right (ltb (length bs) 2) (not (eqb (get_or bs 0 0) 48)) (not_from_false _ (ne_eqb _ _ (λ z. let one : length bs ≡ 1 = h z in omega arith)))
    ]

pub is_plain_from : (bs : List ℕ) → Plain bs → is_plain bs ≡ true
is_plain_from bs p =
    and_from (list_all is_ascii_digit bs && not (eqb (length bs) 0)) (ltb (length bs) 2 || not (eqb (get_or bs 0 0) 48))
    (and_from (list_all is_ascii_digit bs) (not (eqb (length bs) 0)) p.digits (not_from_false _ (ne_eqb _ _ (λ e. let lt : 0 < length bs = p.some in omega arith))))
    (one_or_other bs p.front)

not_plain : (bs : List ℕ) → is_plain bs ≡ false → None ≡ plain_number bs
unfolding plain_number
not_plain bs other = rw other refl

-- so few digits write a number that fits
pub first_digits_small : (bs : List ℕ) (i : ℕ) → i < 19 → list_all is_ascii_digit (take i bs) ≡ true → digits_value 10 (take i bs) < 10 ^ 18
first_digits_small bs i few all = digits_value_short own (take i bs) 18 all (let le = length-take i bs in omega (arith, few, le))

digit_within : (c : ℕ) → is_ascii_digit c ≡ true → (48 ≤ c) × (c ≤ 57)
digit_within c e = let parts = and_parts (leb 48 c) (leb c 57) e in (leb-true 48 c parts.0, leb-true c 57 parts.1)

-- one digit more
pub next_digit : (bs : List ℕ) (i : ℕ) → i < length bs → is_ascii_digit (get_or bs i 0) ≡ true
    → (digits_value 10 (take (i + 1) bs) ≡ digits_value 10 (take i bs) * 10 + (get_or bs i 0 - 48)) × (get_or bs i 0 ≤ 57) × (48 ≤ get_or bs i 0)
next_digit bs i lt one =
    let range = digit_within (get_or bs i 0) one in
    let value = digit_value_digit (get_or bs i 0) range in
    let more = digits_value_more 10 bs i lt in
    (omega (arith, value, more), range.1, range.0)

-- a few digits, with no zero before another, are what is written for their number
pub few_written : (ds : List ℕ) → list_all is_ascii_digit ds ≡ true → 0 < length ds → length ds ≤ 19 → (get_or ds 0 0 ≡ 48 → length ds ≡ 1)
    → ds ≡ decimal (digits_value 10 ds)
few_written ds all some few front =
    let small : digits_value 10 ds < 10 ^ 19 = digits_value_short own ds 19 all few in
    sym (decimal-digits_value own ds all some front (omega (arith, small)))

-- a byte that is no digit
pub not_all_digits : (ds : List ℕ) (i : ℕ) → i < length ds → is_ascii_digit (get_or ds i 0) ≡ false → list_all is_ascii_digit ds ≡ false
not_all_digits ds i lt fails =
    elim (cases_Bool (list_all is_ascii_digit ds)) [
      | inl all ↦ absurd (true≢false (sym (AllPass-from_list_all is_ascii_digit ds all i 0 lt) ∙ fails))
      | inr other ↦ other
    ]

-- what a few digits with no zero in front are
pub few_begun : (bs : List ℕ) → 0 < length bs → length bs ≤ 19 → begins_plainly bs ≡ true
    → (if list_all is_ascii_digit bs then Some (digits_value 10 bs) else None) ≡ plain_number bs
unfolding plain_number
few_begun bs some few front = by_test (list_all is_ascii_digit bs) refl
  where
    parts : (not (eqb (get_or bs 0 0) 43) ≡ true) × ((ltb (length bs) 2 || not (eqb (get_or bs 0 0) 48)) ≡ true)
    parts = and_parts (not (eqb (get_or bs 0 0) 43)) (ltb (length bs) 2 || not (eqb (get_or bs 0 0) 48)) front

    by_test : (b : Bool) → list_all is_ascii_digit bs ≡ b → (if b then Some (digits_value 10 bs) else None) ≡ plain_number bs
    by_test true all =
        let plain : is_plain bs ≡ true = is_plain_from bs (record { digits = all; some = some; front = short bs some parts.1 }) in
        let small : digits_value 10 bs < 10 ^ 19 = digits_value_short own bs 19 all few in
        let lt : ltb (digits_value 10 bs) (2 ^ 64) ≡ true = lt-ltb _ _ (omega (arith, small)) in
        rw (plain, lt) refl
    by_test false other = not_plain bs (rw other refl)

-- what `parse` gives for a plain number
pub number_is : {E : Type 0} (bs : List ℕ) (r : Result ℕ E) → is_plain bs ≡ true → ParsesUnsigned 64 10 bs r → result_ok r ≡ plain_number bs
unfolding plain_number
number_is {E} bs (Ok x) plain h =
    let p = plain_is bs plain in
    let o = parse_digits own {E = E} 64 bs (Ok x) h p.digits in
    let lt : ltb (digits_value 10 bs) (2 ^ 64) ≡ true = lt-ltb _ _ o.0.1 in
    rw (plain, lt, o.1) refl
number_is {E} bs (Err e) plain h =
    let p = plain_is bs plain in
    let o = parse_digits own {E = E} 64 bs (Err e) h p.digits in
    elim (cases_Bool (ltb (digits_value 10 bs) (2 ^ 64))) [
      | inl lt ↦ absurd (o (p.some, ltb-true _ _ lt))
      | inr ge ↦ rw (plain, ge) refl
    ]

-- the same of any text in front of whose digits neither a plus nor a zero stands
pub number_begun : {E : Type 0} (bs : List ℕ) (r : Result ℕ E) → begins_plainly bs ≡ true → ParsesUnsigned 64 10 bs r → result_ok r ≡ plain_number bs
number_begun {E} bs (Ok x) front h = number_is {E = E} bs (Ok x) (is_plain_from bs (record { digits = own.from bs numeral.1; some = numeral.0; front = short bs numeral.0 parts.1 })) h
  where
    parts : (not (eqb (get_or bs 0 0) 43) ≡ true) × ((ltb (length bs) 2 || not (eqb (get_or bs 0 0) 48)) ≡ true)
    parts = and_parts (not (eqb (get_or bs 0 0) 43)) (ltb (length bs) 2 || not (eqb (get_or bs 0 0) 48)) front

    numeral : IsNumeral 10 bs
    numeral = subst (IsNumeral 10) (without_leading_plus_none bs (eqb-false _ _ (not_true _ parts.0))) h.0.0
number_begun {E} bs (Err e) front h =
    elim (cases_Bool (is_plain bs)) [
      | inl plain ↦ number_is {E = E} bs (Err e) plain h
      | inr other ↦ not_plain bs other
    ]

-- and of none
pub empty_number : (bs : List ℕ) → length bs ≡ 0 → None ≡ plain_number bs
empty_number bs none = not_plain bs (by_length bs none)
  where
    by_length : (bs : List ℕ) → length bs ≡ 0 → is_plain bs ≡ false
    by_length [] e = refl
    by_length (b ∷ bs) e = absurd (omega (arith, e))

-- and where one of the two stands there
pub number_not_begun : (bs : List ℕ) → begins_plainly bs ≡ false → None ≡ plain_number bs
number_not_begun bs front = elim (cases_Bool (is_plain bs)) [
  | inl plain ↦ absurd (true≢false (sym (begun (plain_is bs plain)) ∙ front))
  | inr other ↦ not_plain bs other
]
  where
    begun : Plain bs → begins_plainly bs ≡ true
    begun p =
        let first = digit_within (get_or bs 0 0) (AllPass-from_list_all is_ascii_digit bs p.digits 0 0 p.some) in
        and_from (not (eqb (get_or bs 0 0) 43)) (ltb (length bs) 2 || not (eqb (get_or bs 0 0) 48)) (not_from_false _ (ne_eqb _ _ (λ plus. let low = first.0 in omega (arith, low, plus)))) (one_or_other bs p.front)

pub plain_takes : (bs : List ℕ) (n : ℕ) → plain_number bs ≡ Some n → (bs ≡ decimal n) × (n < 2 ^ 64)
unfolding plain_number
plain_takes bs n e =
    let s = cond_some (is_plain bs && ltb (digits_value 10 bs) (2 ^ 64)) (digits_value 10 bs) n e in
    let a = and_parts (is_plain bs) (ltb (digits_value 10 bs) (2 ^ 64)) s.0 in
    let p = plain_is bs a.0 in
    let lt = ltb-true _ _ a.1 in
    (sym (decimal-digits_value own bs p.digits p.some p.front lt) ∙ ap decimal s.1, rw (← s.1) lt)

decimal_front : (n : ℕ) → n < 2 ^ 64 → get_or (decimal n) 0 0 ≡ 48 → length (decimal n) ≡ 1
decimal_front n small e =
    elim (cases_lt 0 n) [
      | inl lt ↦ let above : 48 < get_or (decimal n) 0 0 = first_decimal n lt small in absurd (omega arith)
      | inr le ↦ ap length (decimal_digit n (omega arith))
    ]

pub plain_again : (n : ℕ) → n < 2 ^ 64 → plain_number (decimal n) ≡ Some n
unfolding plain_number
plain_again n small =
    let plain : is_plain (decimal n) ≡ true = is_plain_from (decimal n) (record { digits = digits_decimal own n small; some = decimal_nonempty n small; front = decimal_front n small }) in
    let value : digits_value 10 (decimal n) ≡ n = digits_value-decimal own n small in
    let lt : ltb n (2 ^ 64) ≡ true = lt-ltb _ _ small in
    rw (plain, value, lt) refl
