-- What is found on evidence that is made for a trace.
use Rattle.std.proofs.Common.{◌≡◌, inl, inr, ℕ, zero, suc, ◌+◌, List, [], ◌∷◌, ◌++◌, length, get_or, true, false, Option, None, Some, Result, Ok, Err, refl, sym, ap, subst, ◌∙◌, arith, length-append, append_assoc}
use Rattle.std.specs.Prelude.{IfSome, OnOk, slice_get}
use Rattle.std.specs.List.{AllZip, range_with_len}
use Rattle.std.proofs.lemmas.Option.{slice_get-get_or}
use Rattle.trace_lines.specs.Traces.{trace_of}
use Rattle.trace_lines.specs.Values.{TraceValue, EntryValue}
use Rattle.trace_lines.proofs.OfBytes.{strata_of_bytes}
use Rattle.evidence_check.specs.Evidences.{steps_of}
use Rattle.evidence_check.specs.Judged.{judged}
use Rattle.evidence_check.specs.Laws.{HasValidStrataAt}
use Rattle.evidence_check.specs.Steps.{StepValue}
use Rattle.evidence_check.specs.declared.judged.Judged.{Judged}
use Rattle.evidence_check.specs.declared.judged.Judged.TheVariants as by
use Rattle.evidence_check.proofs.JudgedLemmas.{judged_right}
use Rattle.findings.specs.Findings.{found_by, found_where, found_on, on_line, findings_from, findings_of}
use Rattle.findings.specs.declared.finding.Finding.{Finding}
use Rattle.findings.specs.declared.finding.What.TheVariants.{NoEvidence, WrongReply}
use Rattle.findings.specs.EachEntry.{SpeaksOfEachEntry}
use Rattle.findings.specs.Headline.{IsRightAndFresh, IsTraceRightAndFresh}
use Rattle.findings.proofs.EachFinding.{HoldsOfTokens, each_finding}
use Rattle.findings.proofs.ToldFindings.{by_evidence, told}
use Rattle.audit.specs.Made.{IsMade, AreMade}
use Rattle.audit.specs.Answers.{AuditedMade}
use Rattle.audit.specs.MadeAudit.{AuditsMade, BreaksMade, WhateverIsMade, IsOfMaker, AreOfMaker, IsAccountedFor, MissesNoWrongReply, SpeaksOfMade, IsFoundMade}
use Rattle.audit.specs.Shared.{found_lines}
use Rattle.audit.specs.declared.shared.Found.{Found}
use Rattle.audit.specs.declared.plain.AuditFault.{AuditFault}
use Rattle.audit.specs.declared.plain.Verdict.{Verdict}
use Rattle.audit.specs.Answers.{TellsOfTrace}
use Rattle.audit.specs.Parts.{TraceRead, Told, IsReport}
use Rattle.audit.specs.Devices.{Reading, Writing, Writer, FailsWriting, OfWhole}
use Rattle.audit.proofs.Answering.{tells_of, told_clean}
use Rattle.audit.proofs.Readers.{of_whole-map}
use Rattle.findings.proofs.EachEntryLemmas.{entries_by_bytes, headline_by_bytes}
use Rattle.findings.proofs.WrongReplies.{named_by_bytes}
use Rattle.findings.specs.WrongReplies.{HasOnlyWrongRepliesNamed}

-- ---- what is found

on_tokens : (t : TraceValue) (line : ℕ) → HoldsOfTokens (IsOfMaker t line)
on_tokens t line = record { stale = tt; old = λ n. tt; latest = λ n. tt; opened = λ n. tt; token = tt; version = tt }

by_made : (t : TraceValue) (place : ℕ) (e : EntryValue) (o : Option (List StepValue))
    → slice_get t.entries place ≡ Some e → IsMade t e o
    → IfSome (found_by (judged t e o)) (IsOfMaker t e.line)
by_made t place e None at made = record { place = place; entry = e; at = at; same = refl; given_up = made }
by_made t place e (Some steps) at made =
    elim made.decided [
      | inl supported ↦ subst (λ (j : Judged). IfSome (found_by j) (IsOfMaker t e.line)) (sym supported) tt
      | inr contradicted ↦ subst (λ (j : Judged). IfSome (found_by j) (IsOfMaker t e.line)) (sym contradicted) tt
    ]

made_at : (t : TraceValue) (es : List EntryValue) (os : List (Option (List StepValue))) (i : ℕ) (e : EntryValue)
    → AreMade t es os → slice_get es i ≡ Some e → IsMade t e (steps_of os i)
made_at t [] os i e made at = absurd cc
made_at t (x ∷ es) [] i e made at = absurd made
made_at t (x ∷ es) (o ∷ os) zero e made at =
    let same : x ≡ e = cc in subst (λ (y : EntryValue). IsMade t y o) same made.0
made_at t (x ∷ es) (o ∷ os) (suc i) e made at = made_at t es os i e made.1 at

pub of_maker : (t : TraceValue) (given : List (Option (List StepValue))) → AreMade t t.entries given
    → AreOfMaker t (findings_of t given)
of_maker t given made = each_finding (IsOfMaker t) t given 0 t.entries (on_tokens t) (λ i e at.
    subst (λ (k : ℕ). IfSome (found_by (judged t e (steps_of given k))) (IsOfMaker t e.line))
    (let z : i ≡ 0 + i = omega arith in z)
    (by_made t i e (steps_of given i) at (made_at t t.entries given i e made at)))

settled_by : (t : TraceValue) → ((at : ℕ) → HasValidStrataAt t at)
    → (given : List (Option (List StepValue))) (i : ℕ) (e : EntryValue)
    → slice_get t.entries i ≡ Some e → (o : Option (List StepValue)) → steps_of given i ≡ o → IsMade t e o
    → IsAccountedFor t (findings_of t given) e
settled_by t valid given i e at None is made =
    inr
    (inr (
      made,
      told t given i e NoEvidence at (by_evidence t given i e by.Missing NoEvidence (ap (judged t e) is) refl),
    ))
settled_by t valid given i e at (Some steps) is made =
    elim made.decided [
      | inl supported ↦ inl (judged_right t e (valid e.snapshot) true (Some steps) supported)
      | inr contradicted ↦ inr (inl (
        judged_right t e (valid e.snapshot) false (Some steps) contradicted,
        told t given i e WrongReply at
            (by_evidence t given i e by.Contradicted WrongReply (ap (judged t e) is ∙ contradicted) refl),
      ))
    ]

-- each entry is accounted for
pub misses_none : (a : List ℕ) (t : TraceValue) (given : List (Option (List StepValue))) → trace_of true a ≡ Ok t
    → AreMade t t.entries given
    → MissesNoWrongReply t (findings_of t given)
misses_none a t given says made i d lt =
    let at = slice_get-get_or t.entries i d lt in
    settled_by t (strata_of_bytes a t says) given i (get_or t.entries i d) at (steps_of given i) refl
    (made_at t t.entries given i (get_or t.entries i d) made at)

-- ---- what each worker finds by what it made

-- the steps behind those for the entries before
steps_at : (before after : List (Option (List StepValue))) (o : Option (List StepValue)) (i : ℕ) → length before ≡ i
    → steps_of (before ++ o ∷ after) i ≡ o
steps_at [] after o zero e = refl
steps_at [] after o (suc i) e = absurd (omega (arith, e))
steps_at (x ∷ before) after o zero e = absurd (omega (arith, e))
steps_at (x ∷ before) after o (suc i) e = steps_at before after o i (omega (arith, e))

made_from : (t : TraceValue) (i : ℕ) (before : List (Option (List StepValue))) (es : List EntryValue)
    (found : List Found) → length before ≡ i
    → ((k : ℕ) → slice_get t.entries (i + k) ≡ slice_get es k)
    → AllZip (IsFoundMade t) (range_with_len i (length es)) found
    → (given : List (Option (List StepValue))) × AreMade t es given
    × (found_lines found ≡ findings_from t (before ++ given) i es)
made_from t i before [] [] count at each = ([], tt, refl)
made_from t i before [] (f ∷ fs) count at each = absurd each
made_from t i before (e ∷ es) [] count at each = absurd each
made_from t i before (e ∷ es) (f ∷ fs) count at each =
    let here : slice_get t.entries i ≡ Some e =
    ap (slice_get t.entries) (let z : i ≡ i + 0 = omega arith in z) ∙ at 0 in
    let one = each.0 e here in
    let o : Option (List StepValue) = one.1.0 in
    let more : length (before ++ o ∷ []) ≡ i + 1 = length-append before (o ∷ []) ∙ ap (λ (n : ℕ). n + 1) count in
    let rest =
    made_from t (i + 1) (before ++ o ∷ []) es fs more
    (λ k. ap (slice_get t.entries) (let z : (i + 1) + k ≡ i + suc k = omega arith in z) ∙ at (suc k)) each.1 in
    let whole : (before ++ o ∷ []) ++ rest.0 ≡ before ++ o ∷ rest.0 = append_assoc before (o ∷ []) rest.0 in
    let by : one.0 ≡ judged t e (steps_of (before ++ o ∷ rest.0) i) =
    one.1.2 ∙ ap (judged t e) (sym (steps_at before rest.0 o i count)) in (
      o ∷ rest.0,
      (one.1.1, rest.1),
      ap (λ (x : Found). on_line x.line x.what ++ found_lines fs) one.2
          ∙ ap (λ (j : Judged). on_line e.line (found_where t j i e) ++ found_lines fs) by
          ∙ ap (λ (ls : List Finding). on_line e.line (found_on t (before ++ o ∷ rest.0) i e) ++ ls)
          (rest.2 ∙ ap (λ (os : List (Option (List StepValue))). findings_from t os (i + 1) es) whole),
    )

-- they are the findings by evidence that is made for the trace
pub made_findings : (t : TraceValue) (found : List Found) (findings : List Finding) → findings ≡ found_lines found
    → AllZip (IsFoundMade t) (range_with_len 0 (length t.entries)) found
    → (given : List (Option (List StepValue))) × AreMade t t.entries given × (findings ≡ findings_of t given)
made_findings t found findings is each =
    let all =
    made_from t 0 [] t.entries found refl (λ k. ap (slice_get t.entries) (let z : 0 + k ≡ k = omega arith in z))
    each in
    (all.0, all.1, is ∙ all.2)

-- ---- what a reader says

-- what holds of a trace whatever evidence is made for it
whatever_made : (a : List ℕ) (t : TraceValue) → trace_of true a ≡ Ok t → (P : TraceValue → List Finding → Type 0)
    → ((given : List (Option (List StepValue))) → AreMade t t.entries given → P t (findings_of t given)) → WhateverIsMade P a
whatever_made a t said P h = (t, said, h)

pub speaks_of_made : (a : List ℕ) (t : TraceValue) → trace_of true a ≡ Ok t → SpeaksOfMade a
speaks_of_made a t said = record {
  wrong_replies = whatever_made a t said HasOnlyWrongRepliesNamed (λ given made. named_by_bytes a t given said);
  entries = whatever_made a t said SpeaksOfEachEntry (λ given made. entries_by_bytes a t given said);
  given_up = whatever_made a t said AreOfMaker (λ given made. of_maker t given made);
  complete = whatever_made a t said MissesNoWrongReply (λ given made. misses_none a t given said made);
}

module _ (trace : Reading) (out : Writing) (t : TraceValue) (read : TraceRead trace (Ok t)) where
  pub audited_made : (given : List (Option (List StepValue))) (r : Result Verdict AuditFault)
      → AreMade t t.entries given
      → ((evidence : List (Option (List StepValue))) → findings_of t evidence ≡ [] → IsRightAndFresh t)
      → Told (IsReport t given) out r → AuditedMade trace out r
  audited_made given r made law told =
      record {
        of_trace =
            tells_of AuditsMade BreaksMade (IsReport t given) trace out t r read told
            (λ a text old new v is says went.
            (t, given, is, made, (went ∙ ap (λ (l : List ℕ). old ++ l) says.0, says.1)))
            (λ a text v n is says fails.
            (t, given, is, made, subst (λ (l : List ℕ). FailsWriting out n l) says.0 fails));
        headline = λ clean.
            of_whole-map trace (λ a. trace_of true a ≡ Ok t) IsTraceRightAndFresh
            (λ a is. headline_by_bytes a t is (law given (told_clean t given out r told clean))) read.given;
        made = spoken r;
      }
    where
      spoken : (r : Result Verdict AuditFault) → OnOk r (OfWhole trace SpeaksOfMade)
      spoken (Ok v) = of_whole-map trace (λ a. trace_of true a ≡ Ok t) SpeaksOfMade (λ a is. speaks_of_made a t is) read.given
      spoken (Err f) = tt

-- what could not be audited, and nothing was written
pub made_fault : (trace : Reading) (w : Writer) (e : AuditFault)
    → TellsOfTrace AuditsMade BreaksMade trace (record { before = w; after = w }) (Err e)
    → AuditedMade trace (record { before = w; after = w }) (Err e)
made_fault trace w e tells =
    record { of_trace = tells; headline = λ is. absurd (cc (is)); made = tt }
