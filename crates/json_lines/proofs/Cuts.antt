-- Where the first newline stands in joined and cut lists.
use Rattle.std.proofs.Common.{◌≡◌, ℕ, ◌+◌, ◌-◌, ◌<◌, ◌≤◌, true, eqb, not, List, [], ◌∷◌, ◌++◌, length, take, drop, arith, refl, sym, ap, ◌∙◌, inl, inr}
use Rattle.std.proofs.lemmas.Bool.{and_parts, cases_Bool}
use Rattle.std.proofs.lemmas.List.{length-take}
use Rattle.std.proofs.Common.{min, Option, Some, None, unwrap_or}
use Rattle.std.proofs.Math.ListN.{drop_of_length-le}
use Rattle.std.proofs.lemmas.Bool.{cases_lt, false_from_ne_true}
use Rattle.std.proofs.lemmas.List.{drop-take, drop-drop}
use Rattle.std.proofs.lemmas.List.Sums.{position_or_len_is}
use Rattle.memchr.specs.Find.{IsFirstByte, is_byte}
use Rattle.json_lines.specs.Lines.{lacks, line_len}

pub line_len-append : (xs ys : List ℕ) → lacks xs ≡ true → line_len (xs ++ ys) ≡ length xs + line_len ys
line_len-append [] ys h = omega arith
line_len-append (x ∷ xs) ys h =
    let a = and_parts (not (eqb x 10)) (lacks xs) h in
    rw (a.0) (ap (λ (n : ℕ). 1 + n) (line_len-append xs ys a.1) ∙ omega arith)

-- a newline that is there is the first of a longer list too
pub line_len_within : (xs ys : List ℕ) → line_len xs < length xs → line_len (xs ++ ys) ≡ line_len xs
line_len_within [] ys h = absurd (omega arith)
line_len_within (x ∷ xs) ys h =
    elim (cases_Bool (not (eqb x 10))) [
      | inl t ↦ let more : line_len xs < length xs = omega (arith, rw t at h) in rw t (ap (λ (n : ℕ). 1 + n) (line_len_within xs ys more))
      | inr f ↦ rw f refl
    ]

pub line_len_le : (xs : List ℕ) → line_len xs ≤ length xs
line_len_le [] = omega arith
line_len_le (x ∷ xs) =
    elim (cases_Bool (not (eqb x 10))) [
      | inl t ↦ rw t (omega (arith, line_len_le xs))
      | inr f ↦ rw f (omega arith)
    ]

pub lacks_all : (xs : List ℕ) → length xs ≤ line_len xs → lacks xs ≡ true
lacks_all [] h = refl
lacks_all (x ∷ xs) h =
    elim (cases_Bool (not (eqb x 10))) [
      | inl t ↦ let more : length xs ≤ line_len xs = omega (arith, rw t at h) in rw t (lacks_all xs more)
      | inr f ↦ absurd (omega (arith, rw f at h))
    ]

-- the first n, or all, taken away from a window of a list
pub skipped : (chunk : List ℕ) (at end n k : ℕ) → k ≡ min n (end - at) → take (end - (at + k)) (drop (at + k) chunk) ≡ drop n (take (end - at) (drop at chunk))
skipped chunk at end n k e =
    let ys : List ℕ = drop at chunk in
    let m : ℕ = end - (at + k) in
    elim (cases_lt (end - at) n) [
      | inl lt ↦
          let all : end - at ≡ k = omega arith in
          let none : m ≡ 0 = omega arith in
          rw (none) (sym (drop_of_length-le (take (end - at) ys) (omega (arith, length-take (end - at) ys))))
      | inr le ↦
          let same : n ≡ k = omega arith in
          let whole : end - at ≡ k + m = omega arith in
          rw (same, whole, drop-take k m ys) (ap (take m) (sym (drop-drop k at chunk)))
    ]

pub line_end_is : (xs : List ℕ) (r : Option ℕ) → IsFirstByte (is_byte 10) xs r → unwrap_or r (length xs) ≡ line_len xs
line_end_is xs None none = sym (position_or_len_is (λ b. eqb b 10) xs (length xs) 0 (omega arith) (λ k lt. false_from_ne_true _ (none k (omega arith) lt)) (λ lt. absurd (omega arith)))
line_end_is xs (Some n) first = sym (position_or_len_is (λ b. eqb b 10) xs n 0 (let high : n < length xs = first.0.high in omega arith) (λ k lt. false_from_ne_true _ (first.0.before k (omega arith) lt)) (λ lt. first.1))
