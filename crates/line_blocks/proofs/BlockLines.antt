-- One line of a block after the other.
use Rattle.std.proofs.Common.{◌≡◌, ℕ, ◌+◌, ◌-◌, ◌<◌, ◌≤◌, true, false, eqb, cond, List, [], ◌∷◌, ◌++◌, length, None, Some, Result, Ok, Err, arith, refl, sym, ap, ◌∙◌, append_assoc, append-nil}
use Rattle.std.proofs.lemmas.Bool.{ne_eqb}
use Rattle.std.proofs.lemmas.List.Splits.{length-slice_split, slice_split_first, slice_split_none}
use Rattle.json_lines.specs.Lines.{line_len, first_line, after_line}
use Rattle.json_lines.specs.Reading.{passes_limit, parts}
use Rattle.json_lines.specs.declared.lines.InputFault.TheVariants.{TooLong}
use Rattle.json_lines.specs.declared.reading.Stop.TheVariants.{Input, Line}
use Rattle.json_lines.proofs.Cuts.{lacks_all}
use Rattle.json_lines.proofs.Folds.{none_passes}
use Rattle.line_blocks.specs.Blocks.{but_last, lines_of}
use Rattle.line_blocks.specs.Parts.{PartTold, stopped, before, lines_told}

-- values in front of what is told
abbrev pub onto : {V C : Type 0} → List V → PartTold V C → PartTold V C
onto vs p = record { values = vs ++ p.values; fault = p.fault }

pub lines_next : (xs : List ℕ) → line_len xs < length xs → lines_of xs ≡ first_line xs ∷ lines_of (after_line xs)
lines_next xs lt =
    ap but_last (slice_split_first (λ b. eqb b 10) xs 0 lt)
    ∙ rw (ne_eqb (length (parts (after_line xs))) 0
    (λ e. let k = length-slice_split (λ b. eqb b 10) (after_line xs) in omega (arith, k, e))) refl

pub lines_as : (xs line after : List ℕ) → line ≡ first_line xs → after ≡ after_line xs → line_len xs < length xs
    → lines_of xs ≡ line ∷ lines_of after
lines_as xs line after e f lt =
    lines_next xs lt ∙ ap (λ (l : List ℕ). l ∷ lines_of (after_line xs)) (sym e)
    ∙ ap (λ (l : List ℕ). line ∷ lines_of l) (sym f)

pub lines_done : (xs : List ℕ) → length xs ≤ line_len xs → lines_of xs ≡ []
lines_done xs le = ap but_last (slice_split_none (λ b. eqb b 10) xs (none_passes xs (lacks_all xs le)))

module _ {V C : Type 0} (told : List ℕ → Result V C) where
  abbrev pub rest_told : ℕ → List ℕ → PartTold V C
  rest_told left xs = lines_told told left (lines_of xs)

  module _ (left : ℕ) (xs line after : List ℕ) (vs : List V) (e : line ≡ first_line xs) (f : after ≡ after_line xs)
      (lt : line_len xs < length xs) where
    abbrev behind : PartTold V C
    behind = rest_told (left - (length line + 1)) after

    next : rest_told left xs ≡ cond (passes_limit left line true) (stopped (Input TooLong)) (before (told line) behind)
    next = ap (lines_told told left) (lines_as xs line after e f lt)

    pub goes_on : (v : V) → passes_limit left line true ≡ false → told line ≡ Ok v
        → onto vs (rest_told left xs) ≡ onto (vs ++ v ∷ []) behind
    goes_on v w is =
        ap (onto vs) (next ∙ rw (w, is) refl)
        ∙ ap (λ (l : List V). record { values = l; fault = behind.fault })
        (sym (append_assoc vs (v ∷ []) behind.values))

    pub is_over : passes_limit left line true ≡ true
        → onto vs (rest_told left xs) ≡ record { values = vs; fault = Some (Input TooLong) }
    is_over w =
        ap (onto vs) (next ∙ rw w refl)
        ∙ ap (λ (l : List V). record { values = l; fault = Some (Input TooLong) }) (append-nil vs)

    pub is_refused : (c : C) → passes_limit left line true ≡ false → told line ≡ Err c
        → onto vs (rest_told left xs) ≡ record { values = vs; fault = Some (Line c) }
    is_refused c w is =
        ap (onto vs) (next ∙ rw (w, is) refl)
        ∙ ap (λ (l : List V). record { values = l; fault = Some (Line c) }) (append-nil vs)

  pub is_done : (left : ℕ) (xs : List ℕ) (vs : List V) → length xs ≤ line_len xs
      → onto vs (rest_told left xs) ≡ record { values = vs; fault = None }
  is_done left xs vs le =
      ap (λ (ls : List (List ℕ)). onto vs (lines_told told left ls)) (lines_done xs le)
      ∙ ap (λ (l : List V). record { values = l; fault = None }) (append-nil vs)
