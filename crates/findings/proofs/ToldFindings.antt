-- What is found on an entry is told.
use Rattle.std.proofs.Common.{◌≡◌, ℕ, zero, suc, ◌+◌, List, [], ◌∷◌, Option, Some, None, arith, sym, ap, subst, ◌∙◌}
use Rattle.std.specs.Prelude.{slice_get, Contains}
use Rattle.std.proofs.lemmas.List.Elements.{Contains-append_left, Contains-append_right}
use Rattle.std.proofs.lemmas.Option.{same_Some, slice_get-get_or}
use Rattle.trace_lines.specs.Values.{EntryValue, TraceValue}
use Rattle.evidence_check.specs.Evidences.{steps_of}
use Rattle.evidence_check.specs.Judged.{judged}
use Rattle.evidence_check.specs.Steps.{StepValue}
use Rattle.evidence_check.specs.declared.judged.Judged.{Judged}
use Rattle.token_order.specs.Found.{order_of}
use Rattle.findings.specs.Findings.{found_by, found_on_tokens, found_on, on_line, findings_from, findings_of}
use Rattle.findings.specs.declared.finding.What.{What}

told_on : (line : ℕ) (found : List (Option What)) (what : What) → Contains found (Some what)
    → Contains (on_line line found) (record { line = line; what = what })
told_on line found what h = at found h.0 (there_of found (Some what) h)
  where
    there_of : {X : Type 0} (xs : List X) (x : X) (h : Contains xs x) → slice_get xs h.0 ≡ Some x
    there_of xs x h = slice_get-get_or xs h.0 x h.1 ∙ ap Some h.2

    at : (found : List (Option What)) (k : ℕ) → slice_get found k ≡ Some (Some what)
        → Contains (on_line line found) (record { line = line; what = what })
    at [] k h = cc
    at (None ∷ xs) zero h = cc
    at (None ∷ xs) (suc k) h = at xs k h
    at (Some w ∷ xs) zero h =
        let same : w ≡ what = cc in
        (0, omega arith, ap (λ (x : What). record { line = line; what = x }) same)
    at (Some w ∷ xs) (suc k) h = Contains-append_right (record { line = line; what = w } ∷ []) (on_line line xs)
        (record { line = line; what = what }) (at xs k h)

-- on the entries from number i on
told_from : (t : TraceValue) (evidence : List (Option (List StepValue))) (i : ℕ) (es : List EntryValue) (k : ℕ) (e
    : EntryValue) (what : What)
    → slice_get es k ≡ Some e → Contains (found_on t evidence (i + k) e) (Some what)
    → Contains (findings_from t evidence i es) (record { line = e.line; what = what })
told_from t evidence i [] k e what at found = cc
told_from t evidence i (x ∷ es) zero e what at found =
    let same : x ≡ e = same_Some x e at in
    let here : i + 0 ≡ i = omega arith in
    Contains-append_left (on_line x.line (found_on t evidence i x)) (findings_from t evidence (i + 1) es) (record {
      line = e.line;
      what = what;
    })
    (subst (λ (y : EntryValue). Contains (on_line y.line (found_on t evidence i y)) (record {
      line = e.line;
      what =
          what;
    })) (sym same)
    (told_on e.line (found_on t evidence i e) what (subst (λ (n : ℕ). Contains (found_on t evidence n e) (Some what))
    here found)))
told_from t evidence i (x ∷ es) (suc k) e what at found =
    let next : i + suc k ≡ i + 1 + k = omega arith in
    Contains-append_right (on_line x.line (found_on t evidence i x)) (findings_from t evidence (i + 1) es) (record {
      line = e.line;
      what = what;
    })
    (told_from t evidence (i + 1) es k e what at (subst (λ (n : ℕ). Contains (found_on t evidence n e) (Some what))
    next found))

-- what is found by the evidence comes last
pub by_evidence : (t : TraceValue) (given : List (Option (List StepValue))) (i : ℕ) (e : EntryValue) (j : Judged) (what
    : What)
    → judged t e (steps_of given i) ≡ j → found_by j ≡ Some what → Contains (found_on t given i e) (Some what)
by_evidence t given i e j what is finds =
    Contains-append_right (found_on_tokens (order_of t i e)) (found_by (judged t e (steps_of given i)) ∷ []) (Some what)
    (0, omega arith, ap found_by is ∙ finds)

-- among all findings
pub told : (t : TraceValue) (evidence : List (Option (List StepValue))) (k : ℕ) (e : EntryValue) (what : What) → slice_get t.entries k ≡ Some e
    → Contains (found_on t evidence k e) (Some what) → Contains (findings_of t evidence) (record { line = e.line; what = what })
told t evidence k e what at found =
    let same : k ≡ 0 + k = omega arith in
    told_from t evidence 0 t.entries k e what at (subst (λ (n : ℕ). Contains (found_on t evidence n e) (Some what)) same found)
