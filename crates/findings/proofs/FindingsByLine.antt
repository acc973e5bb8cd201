-- The findings of a part are the whole's on lines of no entry of another object.
use Rattle.std.proofs.Common.{◌≡◌, ℕ, suc, ◌+◌, not, Bool, true, false, cond, List, [], ◌∷◌, ◌++◌, Option, Some, None, refl, sym, ◌∙◌, ap, subst, arith}
use Rattle.std.specs.Prelude.{filter, slice_get}
use Rattle.std.specs.List.Sorted.{IsStrictlyIncreasing}
use Rattle.std.proofs.lemmas.List.Elements.{filter-append}
use Rattle.std.proofs.lemmas.Option.{slice_get_within, get_or_from_slice_get}
use Rattle.trace_lines.specs.Values.{EntryValue, TraceValue, entry_lines}
use Rattle.evidence_check.specs.Steps.{StepValue}
use Rattle.findings.specs.Findings.{found_on, on_line, findings_from, findings_of}
use Rattle.findings.specs.PartEvidence.{is_line_of_others, is_on_part}
use Rattle.findings.specs.Parts.{is_of, part_of, evidence_of_part, findings_on_part_from}
use Rattle.findings.specs.declared.finding.Finding.{Finding}
use Rattle.findings.specs.declared.finding.What.{What}
use Rattle.findings.proofs.EvidenceParts.{of_these, some_other}
use Rattle.findings.proofs.PartLemmas.{findings_of_part_law}
use Rattle.findings.proofs.WrongReplies.{one_entry}

module _ (objects : List ℕ → List ℕ
    → Bool) (t : TraceValue) (rising : IsStrictlyIncreasing (entry_lines t.entries)) (evidence : List (Option (List
    StepValue))) where
  by_line : (k : ℕ) (e : EntryValue) → slice_get t.entries k ≡ Some e
      → not (is_line_of_others objects t.entries e.line) ≡ is_of objects e
  by_line k e at = by_test (is_of objects e) refl (is_line_of_others objects t.entries e.line) refl
    where
      by_test : (b : Bool) → is_of objects e ≡ b → (c : Bool) → is_line_of_others objects t.entries e.line ≡ c
          → not c ≡ b
      by_test true kept false none = refl
      by_test false other true some = refl
      by_test false other false none = let kept = of_these objects t.entries e.line k e at refl none in
          let no : true ≡ false = sym kept ∙ other in cc
      by_test true kept true some =
          let x = some_other objects t.entries e.line some in
          let within = slice_get_within t.entries x.k x.e x.there in
          let there = get_or_from_slice_get t.entries x.k x.e x.e x.there in
          let same : e ≡ x.e =
          one_entry t.entries rising k x.k e x.e at within (sym x.line ∙ sym (ap (λ (y : EntryValue). y.line) there))
          ∙ there in
          let no : true ≡ false = sym kept ∙ ap (is_of objects) same ∙ x.other in cc

  on_own_line : (line : ℕ) (found : List (Option What)) (b : Bool) → not (is_line_of_others objects t.entries line) ≡ b
      → filter (is_on_part objects t.entries) (on_line line found) ≡ cond b (on_line line found) []
  on_own_line line [] true is = refl
  on_own_line line [] false is = refl
  on_own_line line (None ∷ found) b is = on_own_line line found b is
  on_own_line line (Some what ∷ found) true is = rw is (ap (λ (fs : List Finding). record { line = line; what = what }
      ∷ fs) (on_own_line line found true is))
  on_own_line line (Some what ∷ found) false is = rw is (on_own_line line found false is)

  by_lines : (i : ℕ) (es : List EntryValue)
      → ((k : ℕ) (e : EntryValue) → slice_get es k ≡ Some e → slice_get t.entries (i + k) ≡ Some e)
      → findings_on_part_from objects t evidence i es ≡ filter (is_on_part objects t.entries) (findings_from t evidence
      i es)
  by_lines i [] there = refl
  by_lines i (e ∷ es) there =
      let here = by_line (i + 0) e (there 0 e refl) in
      let rest = by_lines (i + 1) es (λ k x at.
      let same : i + suc k ≡ i + 1 + k = omega arith in
      subst (λ (n : ℕ). slice_get t.entries n ≡ Some x) same (there (suc k) x at)) in
      by_test (is_of objects e) (on_own_line e.line (found_on t evidence i e) (is_of objects e) here) rest
      ∙ sym (filter-append (is_on_part objects t.entries) (on_line e.line (found_on t evidence i e)) (findings_from t
      evidence (i + 1) es))
    where
      by_test : (b : Bool)
          → filter (is_on_part objects t.entries) (on_line e.line (found_on t evidence i e)) ≡ cond b (on_line e.line
          (found_on t evidence i e)) []
          → findings_on_part_from objects t evidence (i + 1) es ≡ filter (is_on_part objects t.entries) (findings_from
          t evidence (i + 1) es)
          → cond b (on_line e.line (found_on t evidence i e) ++ findings_on_part_from objects t evidence (i + 1) es)
          (findings_on_part_from objects t evidence (i + 1) es)
          ≡ filter (is_on_part objects t.entries) (on_line e.line (found_on t evidence i e)) ++ filter (is_on_part
          objects t.entries) (findings_from t evidence (i + 1) es)
      by_test true here rest = rw (here, rest) refl
      by_test false here rest = rw (here, rest) refl

  pub findings_by_line : findings_of (part_of objects t) (evidence_of_part objects t evidence) ≡ filter (is_on_part
      objects t.entries) (findings_of t evidence)
  findings_by_line =
      findings_of_part_law objects t evidence
      ∙ by_lines 0 t.entries (λ k e at. let same : k ≡ 0 + k = omega arith in
      subst (λ (n : ℕ). slice_get t.entries n ≡ Some e) same at)
