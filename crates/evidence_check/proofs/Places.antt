-- The place of a number among numbers that rise.
use Rattle.std.proofs.Common.{◌≡◌, ℕ, zero, suc, ◌+◌, ◌-◌, ◌<◌, ◌≤◌, eqb, List, length, get_or, Result, Ok, Err, arith, refl, inl, inr}
use Rattle.std.specs.Prelude.{MatchResult}
use Rattle.std.specs.Result.{result_ok}
use Rattle.std.specs.List.{position_or_len}
use Rattle.std.specs.List.Sorted.{IsStrictlyIncreasing}
use Rattle.std.proofs.lemmas.Bool.{lt-ltb, le-ltb, ne_eqb, eq-eqb, cases_lt}
use Rattle.std.proofs.lemmas.List.Sums.{position_or_len_is}
use Rattle.evidence_check.specs.Reading.{place_of}

rises_by : (xs : List ℕ) → IsStrictlyIncreasing xs → (k j : ℕ) → k + suc j < length xs → get_or xs k 0 < get_or xs (k + suc j) 0
rises_by xs up k zero lt =
    let one : k + suc zero ≡ k + 1 = omega arith in
    rw one (up k (omega arith))
rises_by xs up k (suc j) lt =
    let rest = rises_by xs up k j (omega arith) in
    let next = up (k + suc j) (omega arith) in
    let same : k + suc (suc j) ≡ k + suc j + 1 = omega arith in
    rw same (omega (arith, rest, next))

pub rises : (xs : List ℕ) → IsStrictlyIncreasing xs → (k i : ℕ) → k < i → i < length xs → get_or xs k 0 < get_or xs i 0
rises xs up k i lt within =
    let gap : i ≡ k + suc (i - suc k) = omega arith in
    rw gap (rises_by xs up k (i - suc k) (omega (arith, gap)))

pub never_falls : (xs : List ℕ) → IsStrictlyIncreasing xs → (i j : ℕ) → i ≤ j → j < length xs → get_or xs i 0 ≤ get_or xs j 0
never_falls xs up i j le within =
    elim (cases_lt i j) [
      | inl lt ↦ let r = rises xs up i j lt within in omega (arith, r)
      | inr ge ↦ let e : i ≡ j = omega arith in rw e (omega arith)
    ]

-- what the search found is the first place
pub found_place : (xs : List ℕ) → IsStrictlyIncreasing xs → (x : ℕ) (r : Result ℕ ℕ)
    → MatchResult r (λ i. (i < length xs) × (get_or xs i 0 ≡ x)) (λ i. (i ≤ length xs) × ((k : ℕ) → k < i → get_or xs k 0 < x) × ((k : ℕ) → i ≤ k → k < length xs → x < get_or xs k 0))
    → result_ok r ≡ place_of x xs
found_place xs up x (Ok i) h =
    let at : position_or_len (λ l. eqb l x) xs ≡ i =
    position_or_len_is (λ l. eqb l x) xs i 0 (let lt = h.0 in omega (arith, lt))
    (λ k lt. ne_eqb _ _ (λ e. let r = rises xs up k i lt h.0 in let same = h.1 in omega (arith, r, e, same)))
    (λ lt. eq-eqb _ _ h.1) in
    rw (at, lt-ltb _ _ h.0) refl
found_place xs up x (Err i) h =
    let at : position_or_len (λ l. eqb l x) xs ≡ length xs =
    position_or_len_is (λ l. eqb l x) xs (length xs) 0 (omega arith)
    (λ k lt. ne_eqb _ _ (λ e. elim (cases_lt k i) [
      | inl below ↦ let b = h.1 k below in omega (arith, b, e)
      | inr above ↦ let a = h.2 k above lt in omega (arith, a, e)
    ]))
    (λ lt. absurd (omega (arith, lt))) in
    rw (at, le-ltb (length xs) (length xs) (omega arith)) refl
