-- One entry after the other.
use Rattle.std.proofs.Common.{◌≡◌, ℕ, zero, suc, ◌+◌, List, [], ◌∷◌, ◌++◌, drop, Option, Some, sym, ap, ◌∙◌, arith, append_assoc}
use Rattle.std.specs.Prelude.{slice_get}
use Rattle.trace_lines.specs.Values.{TraceValue, EntryValue}
use Rattle.evidence_check.specs.Steps.{StepValue}
use Rattle.findings.specs.Findings.{found_on, on_line, findings_from}
use Rattle.findings.specs.declared.finding.What.{What}
use Rattle.findings.specs.declared.finding.Finding.{Finding}

dropped : (es : List EntryValue) (i : ℕ) (e : EntryValue) → slice_get es i ≡ Some e → drop i es ≡ e ∷ drop (i + 1) es
dropped [] i e h = absurd cc
dropped (x ∷ es) zero e h = let same : x ≡ e = cc in ap (λ (y : EntryValue). y ∷ es) same
dropped (x ∷ es) (suc i) e h = let next : suc i + 1 ≡ suc (i + 1) = omega arith in rw next (dropped es i e h)

-- what is found on one entry goes behind what was found before
pub one_more : (t : TraceValue) (evidence : List (Option (List StepValue))) (i : ℕ) (e : EntryValue) (before new whole : List Finding) (found : List (Option What))
    → slice_get t.entries i ≡ Some e → found ≡ found_on t evidence i e → new ≡ before ++ on_line e.line found
    → before ++ findings_from t evidence i (drop i t.entries) ≡ whole → new ++ findings_from t evidence (i + 1) (drop (i + 1) t.entries) ≡ whole
one_more t evidence i e before new whole found at by is h =
    let here : findings_from t evidence i (drop i t.entries) ≡ on_line e.line (found_on t evidence i e) ++ findings_from t evidence (i + 1) (drop (i + 1) t.entries) =
    ap (findings_from t evidence i) (dropped t.entries i e at) in
    rw (is, by) (append_assoc before (on_line e.line (found_on t evidence i e)) (findings_from t evidence (i + 1) (drop (i + 1) t.entries)) ∙ sym (ap (λ (fs : List Finding). before ++ fs) here) ∙ h)
