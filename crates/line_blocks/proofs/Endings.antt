-- Bytes that end in a newline.
use Rattle.std.proofs.Common.{◌≡◌, ℕ, ◌+◌, ◌-◌, ◌<◌, ◌≤◌, ◌⊎◌, inl, inr, Bool, true, false, eqb, not, List, [], ◌∷◌, ◌++◌, length, take, drop, get_or, get_or-drop, suc, arith, refl, sym, ap, ◌∙◌, append_assoc, length-append}
use Rattle.std.proofs.Math.Seq.{take-length, take-suc}
use Rattle.std.proofs.lemmas.Bool.{and_parts, cases_lt, eqb-true, false_from_ne_true, lt-ltb, not-true}
use Rattle.std.proofs.lemmas.List.{length-drop, length-take-le, take_at, take-append-drop}
use Rattle.std.proofs.lemmas.List.Folds.{list_all-append}
use Rattle.std.proofs.lemmas.List.Sums.{position_or_len_is}
use Rattle.memchr.specs.Find.{is_byte}
use Rattle.json_lines.specs.Lines.{lacks, line_len, first_line, after_line}
use Rattle.json_lines.proofs.Cuts.{lacks_all, line_len_le}
use Rattle.json_lines.proofs.Steps.{split_line}
use Rattle.line_blocks.specs.Blocks.{ends_in_newline, has_whole_lines}

pub ends-append : (b : Bool) (xs ys : List ℕ) → ends_in_newline b (xs ++ ys) ≡ ends_in_newline (ends_in_newline b xs) ys
ends-append b [] ys = refl
ends-append b (x ∷ xs) ys = ends-append (eqb x 10) xs ys

pub ends-newline : (xs : List ℕ) → has_whole_lines (xs ++ 10 ∷ []) ≡ true
ends-newline xs = ends-append true xs (10 ∷ [])

-- what stands behind whole lines is whole lines too
pub whole_behind : (xs ys : List ℕ) → has_whole_lines (xs ++ ys) ≡ true → has_whole_lines xs ≡ true
    → has_whole_lines ys ≡ true
whole_behind xs ys h k = ap (λ (b : Bool). ends_in_newline b ys) (sym k) ∙ sym (ends-append true xs ys) ∙ h

-- bytes that end in a newline
pub ended : (b : Bool) (xs : List ℕ) → ends_in_newline b xs ≡ true → (xs ≡ []) ⊎ ((a : List ℕ) × (xs ≡ a ++ 10 ∷ []))
ended b [] h = inl refl
ended b (x ∷ xs) h = at_rest (ended (eqb x 10) xs h)
  where
    at_rest : (xs ≡ []) ⊎ ((a : List ℕ) × (xs ≡ a ++ 10 ∷ []))
        → (x ∷ xs ≡ []) ⊎ ((a : List ℕ) × (x ∷ xs ≡ a ++ 10 ∷ []))
    at_rest (inl none) = inr ([], rw none (ap (λ (y : ℕ). y ∷ []) (eqb-true x 10 (rw none at h))))
    at_rest (inr some) = inr (x ∷ some.0, ap (λ (l : List ℕ). x ∷ l) some.1)

lacking_ends : (xs : List ℕ) → lacks xs ≡ true → ends_in_newline false xs ≡ false
lacking_ends [] h = refl
lacking_ends (x ∷ xs) h =
    let a = and_parts (not (eqb x 10)) (lacks xs) h in rw (not-true (eqb x 10) a.0) (lacking_ends xs a.1)

lacking_some : (b : Bool) (xs : List ℕ) → lacks xs ≡ true → 0 < length xs → ends_in_newline b xs ≡ false
lacking_some b [] h lt = absurd (omega arith)
lacking_some b (x ∷ xs) h lt =
    let a = and_parts (not (eqb x 10)) (lacks xs) h in rw (not-true (eqb x 10) a.0) (lacking_ends xs a.1)

-- from any place in whole lines on there is a newline
pub newline_there : (xs : List ℕ) (at : ℕ) → has_whole_lines xs ≡ true → at < length xs
    → line_len (drop at xs) < length (drop at xs)
newline_there xs at h lt =
    elim (cases_lt (line_len (drop at xs)) (length (drop at xs))) [
      | inl there ↦ there
      | inr le ↦
          let none : ends_in_newline (has_whole_lines (take at xs)) (drop at xs) ≡ false =
          lacking_some _ (drop at xs) (lacks_all (drop at xs) le) (omega (arith, length-drop at xs, lt)) in
          absurd (cc (none, ends-append true (take at xs) (drop at xs), ap has_whole_lines (take-append-drop at xs), h))
    ]

-- cut behind that newline, what lies in front is whole lines
pub cut_whole : (xs : List ℕ) (at : ℕ) → has_whole_lines xs ≡ true → at < length xs
    → has_whole_lines (take (at + line_len (drop at xs) + 1) xs) ≡ true
cut_whole xs at h lt =
    let tail : List ℕ = drop at xs in
    let there : line_len tail < length tail = newline_there xs at h lt in
    let front : List ℕ = take at xs ++ first_line tail in
    let split : xs ≡ (front ++ 10 ∷ []) ++ after_line tail =
    sym (take-append-drop at xs) ∙ ap (λ (l : List ℕ). take at xs ++ l) (split_line tail true (sym (lt-ltb _ _ there)))
    ∙ sym (append_assoc (take at xs) (first_line tail ++ 10 ∷ []) (after_line tail))
    ∙ ap (λ (l : List ℕ). l ++ after_line tail) (sym (append_assoc (take at xs) (first_line tail) (10 ∷ []))) in
    let size : length (front ++ 10 ∷ []) ≡ at + line_len tail + 1 =
    omega (
      arith,
      length-append front (10 ∷ []),
      length-append (take at xs) (first_line tail),
      length-take-le at xs
          (omega (arith, lt)),
      length-take-le (line_len tail) tail (line_len_le tail),
    ) in
    ap (λ (l : List ℕ). has_whole_lines (take (at + line_len tail + 1) l)) split
    ∙ ap has_whole_lines (take_at (front ++ 10 ∷ []) (after_line tail) (at + line_len tail + 1) size)
    ∙ ends-newline front

pub newline_last : (xs : List ℕ) (last : ℕ) → last < length xs → is_byte 10 (get_or xs last 0) ≡ true
    → has_whole_lines (take (last + 1) xs) ≡ true
newline_last xs last lt is =
    ap (λ (n : ℕ). has_whole_lines (take n xs)) (let e : last + 1 ≡ suc last = omega arith in e)
    ∙ ap has_whole_lines (take-suc xs last 0 lt
    ∙ ap (λ (b : ℕ). take last xs ++ b ∷ []) (eqb-true (get_or xs last 0) 10 is)) ∙ ends-newline (take last xs)

pub none_behind : (xs : List ℕ) (n : ℕ) → ((k : ℕ) → n ≤ k → k < length xs → ¬ (is_byte 10 (get_or xs k 0) ≡ true))
    → lacks (drop n xs) ≡ true
none_behind xs n none =
    let tail : List ℕ = drop n xs in
    lacks_all tail (omega (
      arith,
      position_or_len_is (λ b. eqb b 10) tail (length tail) 0 (omega arith)
          (λ k lt. false_from_ne_true _ (λ e. none (n + k) (omega arith) (omega (arith, length-drop n xs, lt))
          (ap (is_byte 10) (sym (get_or-drop n xs k 0)) ∙ e)))
          (λ lt. absurd (omega arith)),
    ))

-- ---- where the first bytes were seen before

pub all_behind : (xs : List ℕ) (seen : ℕ) → take (length xs - seen) (drop seen xs) ≡ drop seen xs
all_behind xs seen = ap (λ (n : ℕ). take n (drop seen xs)) (sym (length-drop seen xs)) ∙ take-length (drop seen xs)

pub newline_last_from : (xs : List ℕ) (seen last : ℕ) → last < length (drop seen xs) → seen ≤ length xs
    → is_byte 10 (get_or (drop seen xs) last 0) ≡ true → has_whole_lines (take (seen + last + 1) xs) ≡ true
newline_last_from xs seen last lt le is =
    newline_last xs (seen + last) (omega (arith, lt, length-drop seen xs))
    (ap (is_byte 10) (sym (get_or-drop seen xs last 0)) ∙ is)

pub none_behind_from : (xs : List ℕ) (seen n : ℕ) → seen ≤ length xs
    → ((k : ℕ) → n ≤ k → k < length (drop seen xs) → ¬ (is_byte 10 (get_or (drop seen xs) k 0) ≡ true))
    → lacks (drop (seen + n) xs) ≡ true
none_behind_from xs seen n le none =
    none_behind xs (seen + n) (λ k from lt is.
    let there : seen + (k - seen) ≡ k = omega (arith, from) in
    none (k - seen) (omega (arith, from)) (omega (arith, from, lt, length-drop seen xs))
    (ap (is_byte 10) (get_or-drop seen xs (k - seen) 0 ∙ ap (λ (i : ℕ). get_or xs i 0) there) ∙ is))

pub lacks_all_of : (xs : List ℕ) (seen : ℕ) → lacks (take seen xs) ≡ true → lacks (drop seen xs) ≡ true → lacks xs ≡ true
lacks_all_of xs seen front behind =
    ap lacks (sym (take-append-drop seen xs))
    ∙ list_all-append (λ b. not (eqb b 10)) (take seen xs) (drop seen xs) ∙ rw (front, behind) refl
