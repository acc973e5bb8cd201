-- How many lines an input has whose last line was taken.
use Rattle.std.proofs.Common.{◌≡◌, ℕ, ◌+◌, ◌-◌, ◌<◌, true, false, cond, eqb, not, List, [], ◌∷◌, ◌++◌, length, get_or, Result, arith, refl, sym, ap, ◌∙◌, inl, inr, append-nil, length-append}
use Rattle.std.specs.List.{count_by}
use Rattle.std.proofs.lemmas.Bool.{and_parts, cases_lt, ne_eqb, not-true}
use Rattle.std.proofs.lemmas.List.{get_or-append_right}
use Rattle.std.proofs.lemmas.List.Splits.{length-slice_split}
use Rattle.json_lines.specs.Lines.{lacks}
use Rattle.json_lines.specs.Reading.{are_whole_lines, line_count}
use Rattle.json_lines.specs.SoFar.{GoesFrom}
use Rattle.json_lines.proofs.Folds.{from_one}

none_counted : (xs : List ℕ) → lacks xs ≡ true → count_by (λ b. eqb b 10) xs ≡ 0
none_counted [] h = refl
none_counted (x ∷ xs) h =
    let both = and_parts (not (eqb x 10)) (lacks xs) h in
    rw (not-true (eqb x 10) both.0) (none_counted xs both.1)

-- the last byte behind some others
pub last_byte : (xs : List ℕ) (y : ℕ) (ys : List ℕ)
    → get_or (xs ++ y ∷ ys) (length (xs ++ y ∷ ys) - 1) 10 ≡ get_or (y ∷ ys) (length (y ∷ ys) - 1) 10
last_byte xs y ys =
    let size = length-append xs (y ∷ ys) in
    get_or-append_right xs (y ∷ ys) (length xs) (length (xs ++ y ∷ ys) - 1) 10 refl (omega (arith, size))
    ∙ ap (λ (i : ℕ). get_or (y ∷ ys) i 10)
    (let e : length (xs ++ y ∷ ys) - 1 - length xs ≡ length (y ∷ ys) - 1 = omega (arith, size) in e)

last_of_line : (y : ℕ) (ys : List ℕ) → lacks (y ∷ ys) ≡ true → eqb (get_or (y ∷ ys) (length (y ∷ ys) - 1) 10) 10 ≡ false
last_of_line y [] h = not-true (eqb y 10) (and_parts (not (eqb y 10)) true h).0
last_of_line y (z ∷ zs) h =
    ap (λ (b : ℕ). eqb b 10) (last_byte (y ∷ []) z zs)
    ∙ last_of_line z zs (and_parts (not (eqb y 10)) (lacks (z ∷ zs)) h).1

module _ {S C : Type 0} (taken : ℕ → S → List ℕ → Result S C) (start : S) (n room : ℕ) (s : S) (used line : List ℕ)
    (from : GoesFrom taken start n room s used) (none : n ≡ 1 → used ≡ [])
    (whole : 1 < n → (lines : List ℕ) × (used ≡ lines ++ 10 ∷ [])) (h : lacks line ≡ true) where
  newlines : count_by (λ b. eqb b 10) (used ++ line) + 1 ≡ n
  newlines =
      let all = length-slice_split (λ b. eqb b 10) (used ++ line) in
      let last = length-slice_split (λ b. eqb b 10) line in
      omega (arith, from.counted line, all, last, none_counted line h)

  ends_whole : are_whole_lines used ≡ true
  ends_whole = elim (cases_lt 1 n) [
    | inl lt ↦
        let lines = whole lt in
        ap are_whole_lines lines.1 ∙ ap (λ (b : ℕ). eqb b 10) (last_byte lines.0 10 [])
    | inr le ↦
        let above = from_one taken start n room s used from in
        ap are_whole_lines (none (omega (arith, le, above)))
  ]

  ends_open : (y : ℕ) (ys : List ℕ) → line ≡ y ∷ ys → are_whole_lines (used ++ line) ≡ false
  ends_open y ys is =
      ap (λ (l : List ℕ). are_whole_lines (used ++ l)) is
      ∙ ap (λ (b : ℕ). eqb b 10) (last_byte used y ys)
      ∙ last_of_line y ys (sym (ap lacks is) ∙ h)

  pub counts_all : n - cond (eqb (length line) 0) 1 0 ≡ line_count (used ++ line)
  counts_all = by_line line refl
    where
      by_line : (l : List ℕ) → line ≡ l → n - cond (eqb (length line) 0) 1 0 ≡ line_count (used ++ line)
      by_line [] is =
          let end : are_whole_lines (used ++ line) ≡ true = ap (λ (l : List ℕ). are_whole_lines (used ++ l)) is ∙ ap are_whole_lines
          (append-nil used) ∙ ends_whole in
          rw (ap length is, end) (omega (arith, newlines))
      by_line (y ∷ ys) is =
          let some : eqb (length line) 0 ≡ false = ap (λ (l : List ℕ). eqb (length l) 0) is
          ∙ ne_eqb (length (y ∷ ys)) 0 (λ e. omega (arith, e)) in
          rw (some, ends_open y ys is) (omega (arith, newlines))
