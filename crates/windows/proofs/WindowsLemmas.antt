-- A trace whose every entry is seen clean in some window.
use Rattle.std.proofs.Common.{◌≡◌, ℕ, zero, suc, ◌+◌, ◌<◌, List, [], ◌∷◌, ◌++◌, length, map, Option, Some, None, refl, sym, ◌∙◌, ap, subst, arith}
use Rattle.std.specs.Prelude.{slice_get, option_map}
use Rattle.std.proofs.lemmas.List.{length-append}
use Rattle.std.proofs.lemmas.Option.{slice_get_within}
use Rattle.trace_lines.specs.Values.{EntryValue, TraceValue}
use Rattle.evidence_check.specs.Evidences.{steps_of}
use Rattle.evidence_check.specs.Steps.{StepValue}
use Rattle.findings.specs.Findings.{found_on, on_line, findings_from, findings_of}
use Rattle.findings.specs.declared.finding.What.{What}
use Rattle.windows.specs.Compaction.{AreRising}
use Rattle.windows.specs.Windows.{IsSeenClean, relined}
use Rattle.windows.proofs.WindowLemmas.{found_law}

nothing_relined : (r : What → What) (l m : ℕ) (xs : List (Option What)) → on_line l xs ≡ []
    → on_line m (map (option_map r) xs) ≡ []
nothing_relined r l m [] h = refl
nothing_relined r l m (None ∷ xs) h = nothing_relined r l m xs h
nothing_relined r l m (Some x ∷ xs) h = cc

module _ (F : ℕ → Option (List StepValue)) where
  -- what F gives from a number on, so many times
  abbrev listed : ℕ → ℕ → List (Option (List StepValue))
  listed from zero = []
  listed from (suc n) = F from ∷ listed (from + 1) n

  steps_listed : (from n i : ℕ) → i < n → steps_of (listed from n) i ≡ F (from + i)
  steps_listed from zero i lt = absurd (omega arith)
  steps_listed from (suc n) zero lt = let e : from ≡ from + 0 = omega arith in ap F e
  steps_listed from (suc n) (suc i) lt = let e : from + 1 + i ≡ from + suc i = omega arith in
      steps_listed (from + 1) n i (omega (arith, lt)) ∙ ap F e

here : (before : List EntryValue) (e : EntryValue) (after : List EntryValue)
    → slice_get (before ++ e ∷ after) (length before) ≡ Some e
here [] e after = refl
here (x ∷ xs) e after = here xs e after

one_more : (xs : List EntryValue) (e : EntryValue) (es : List EntryValue) → (xs ++ e ∷ []) ++ es ≡ xs ++ e ∷ es
one_more [] e es = refl
one_more (x ∷ xs) e es = ap (λ (r : List EntryValue). x ∷ r) (one_more xs e es)

module _ (t : TraceValue) (rising : AreRising t.commits) (seen : (i : ℕ) (e : EntryValue)
    → slice_get t.entries i ≡ Some e → IsSeenClean t i e) where
  -- the steps that a window has for what stands at a place of the whole
  steps_by : (i : ℕ) (o : Option EntryValue) → slice_get t.entries i ≡ o → Option (List StepValue)
  steps_by i None at = None
  steps_by i (Some e) at = let s = seen i e at in steps_of s.evidence s.place

  steps_at : ℕ → Option (List StepValue)
  steps_at i = steps_by i (slice_get t.entries i) refl

  pub gathered : List (Option (List StepValue))
  gathered = listed steps_at 0 (length t.entries)

  from_nothing : (n : ℕ) → 0 + n ≡ n
  from_nothing n = omega arith

  gathered_at : (i : ℕ) → i < length t.entries → steps_of gathered i ≡ steps_at i
  unfolding gathered
  gathered_at i lt = steps_listed steps_at 0 (length t.entries) i lt ∙ ap steps_at (from_nothing i)

  clean_by : (i : ℕ) (e : EntryValue) (o : Option EntryValue) (at : slice_get t.entries i ≡ o) → o ≡ Some e
      → steps_of gathered i ≡ steps_by i o at → on_line e.line (found_on t gathered i e) ≡ []
  unfolding steps_by
  clean_by i e None at is steps = cc
  clean_by i e (Some x) at is steps =
      let same : x ≡ e = cc in
      let s = seen i x at in
      subst (λ (y : EntryValue). on_line y.line (found_on t gathered i y) ≡ []) same
      (ap (λ (xs : List (Option What)). on_line x.line xs) (sym (found_law s.line s.first s.from s.to t s.window s.cut
      rising s.rising i s.place x s.entry at s.there s.copied s.own s.within s.names gathered s.evidence (sym
      steps)))
      ∙ nothing_relined (relined s.line) s.entry.line x.line (found_on s.window s.evidence s.place s.entry) s.clean)

  clean_at : (i : ℕ) (e : EntryValue) → slice_get t.entries i ≡ Some e → on_line e.line (found_on t gathered i e) ≡ []
  unfolding steps_by steps_at
  clean_at i e at = clean_by i e (slice_get t.entries i) refl at (gathered_at i (slice_get_within t.entries i e at))

  clean_from : (before after : List EntryValue) → t.entries ≡ before ++ after
      → findings_from t gathered (length before) after ≡ []
  clean_from before [] is = refl
  clean_from before (e ∷ es) is =
      let this = clean_at (length before) e (ap (λ (xs : List EntryValue). slice_get xs (length before)) is
      ∙ here before e es) in
      let further = clean_from (before ++ e ∷ []) es (is ∙ sym (one_more before e es)) in
      let next : findings_from t gathered (length before + 1) es ≡ [] = subst (λ (n : ℕ). findings_from t gathered n es
      ≡ []) (length-append before (e ∷ [])) further in
      rw (this, next) refl

  pub clean_in_windows : findings_of t gathered ≡ []
  clean_in_windows = clean_from [] t.entries refl
