-- What several workers find is what is found.
use Rattle.std.proofs.Common.{◌≡◌, ℕ, suc, ◌+◌, List, [], ◌∷◌, ◌++◌, Option, None, Some, refl, ap, ◌∙◌, arith, length, map}
use Rattle.std.specs.Prelude.{slice_get, unwrap_or}
use Rattle.std.specs.List.{AllZip, range_with_len}
use Rattle.std.proofs.lemmas.Slice.Zip.{AllZip-map}
use Rattle.std.specs.Option.{option_map_or}
use Rattle.trace_lines.specs.Values.{TraceValue, EntryValue}
use Rattle.evidence_check.specs.Judging.{AreJudged}
use Rattle.evidence_check.specs.Steps.{StepValue}
use Rattle.evidence_check.specs.declared.judged.Judged.{Judged}
use Rattle.evidence_check.specs.declared.judged.Judged.TheVariants.{Missing}
use Rattle.findings.specs.Findings.{found_on, found_where, on_line, findings_from, findings_of}
use Rattle.audit.specs.Shared.{nothing_found, found_judged, all_judged, found_lines}
use Rattle.findings.specs.declared.finding.Finding.{Finding}
use Rattle.audit.specs.declared.shared.Found.{Found}

-- what is found on entry i, and its line
abbrev pub found_at : TraceValue → List (Option (List StepValue)) → ℕ → Found
found_at t evidence i =
    option_map_or (λ e. record { line = e.line; what = found_on t evidence i e })
    (slice_get t.entries i) nothing_found

-- that of each entry, in order
abbrev pub all_found : TraceValue → List (Option (List StepValue)) → List Found
all_found t evidence = map (found_at t evidence) (range_with_len 0 (length t.entries))

found_from : (t : TraceValue) (evidence : List (Option (List StepValue))) (i : ℕ) (es : List EntryValue)
    → ((k : ℕ) → slice_get t.entries (i + k) ≡ slice_get es k)
    → found_lines (map (found_at t evidence) (range_with_len i (length es))) ≡ findings_from t evidence i es
found_from t evidence i [] h = refl
found_from t evidence i (e ∷ es) h =
    let zeroth : i ≡ i + 0 = omega arith in
    let here : slice_get t.entries i ≡ Some e = ap (slice_get t.entries) zeroth ∙ h 0 in
    let next : (k : ℕ) → slice_get t.entries ((i + 1) + k) ≡ slice_get es k =
    λ k. ap (slice_get t.entries) (let z : (i + 1) + k ≡ i + suc k = omega arith in z) ∙ h (suc k) in
    let found : Option EntryValue → Found =
    λ o. option_map_or (λ e. record { line = e.line; what = found_on t evidence i e }) o nothing_found in
    let rest : List Finding = found_lines (map (found_at t evidence) (range_with_len (i + 1) (length es))) in
    ap (λ (o : Option EntryValue). on_line (found o).line (found o).what ++ rest) here
    ∙ ap (λ (fs : List Finding). on_line e.line (found_on t evidence i e) ++ fs) (found_from t evidence (i + 1) es next)

-- what is found on each entry, in order, holds the findings
pub found_is_findings : (t : TraceValue) (evidence : List (Option (List StepValue)))
    → found_lines (all_found t evidence) ≡ findings_of t evidence
found_is_findings t evidence =
    found_from t evidence 0 t.entries (λ k. ap (slice_get t.entries) (let z : 0 + k ≡ k = omega arith in z))

pub found_are_findings : (t : TraceValue) (evidence : List (Option (List StepValue))) (found : List Found)
    (findings : List Finding)
    → findings ≡ found_lines found → found ≡ all_found t evidence → findings ≡ findings_of t evidence
found_are_findings t evidence found findings a b = a ∙ ap found_lines b ∙ found_is_findings t evidence

-- ---- where evidence judges the entries so

module _ (t : TraceValue) (evidence : List (Option (List StepValue))) (judgements : List Judged)
    (are : AreJudged t evidence judgements) where
  -- what is found on an entry is what is found by the evidence
  pub judged_alike : (i : ℕ) → found_judged t judgements i ≡ found_at t evidence i
  judged_alike i = at (slice_get t.entries i) refl
    where
      at : (o : Option EntryValue) → slice_get t.entries i ≡ o
          → option_map_or
          (λ e. record { line = e.line; what = found_where t (unwrap_or (slice_get judgements i) Missing) i e }) o
          nothing_found
          ≡ option_map_or (λ e. record { line = e.line; what = found_on t evidence i e }) o nothing_found
      at None is = refl
      at (Some e) is =
          ap (λ (j : Option Judged). record { line = e.line; what = found_where t (unwrap_or j Missing) i e })
          (are.1 i e is)

  pub all_alike : all_judged t judgements ≡ all_found t evidence
  all_alike = along (range_with_len 0 (length t.entries))
    where
      along : (is : List ℕ) → map (found_judged t judgements) is ≡ map (found_at t evidence) is
      along [] = refl
      along (i ∷ is) = ap (λ (f : Found). f ∷ map (found_judged t judgements) is) (judged_alike i) ∙ ap (λ (fs : List Found). found_at t evidence i ∷ fs) (along is)

-- where each entry's report is what is found on it
pub all_are_judged : (t : TraceValue) (judgements : List Judged) (entries : List ℕ)
    (found : List Found) → entries ≡ range_with_len 0 (length t.entries)
    → AllZip (λ i f. f ≡ found_judged t judgements i) entries found → found ≡ all_judged t judgements
all_are_judged t judgements entries found are each =
    AllZip-map (found_judged t judgements) entries found each ∙ ap (map (found_judged t judgements)) are
