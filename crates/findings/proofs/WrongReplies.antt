-- An entry of which the findings say that its reply is wrong has a wrong reply.
use Rattle.std.proofs.Common.{◌≡◌, ◌⊎◌, inl, inr, ℕ, zero, suc, ◌+◌, ◌<◌, ◌≤◌, List, [], ◌∷◌, ◌++◌, length, get_or, Bool, true, false, Option, None, Some, option_map, Ok, refl, sym, subst, ap, ◌∙◌, arith}
use Rattle.std.specs.Prelude.{All, IfSome, slice_get}
use Rattle.std.specs.List.{AllByRecursion}
use Rattle.std.specs.List.Sorted.{IsStrictlyIncreasing}
use Rattle.std.proofs.lemmas.Bool.{cases_lt}
use Rattle.std.proofs.lemmas.List.{length-map, get_or-map}
use Rattle.std.proofs.lemmas.List.Elements.{All-nil, All-cons, All-append, All-contains}
use Rattle.std.proofs.lemmas.List.Kept.{AllPairs-from_increasing}
use Rattle.std.proofs.lemmas.Option.{slice_get-get_or}
use Rattle.trace_lines.specs.Traces.{trace_of}
use Rattle.trace_lines.specs.Values.{TraceValue, EntryValue, entry_lines}
use Rattle.trace_lines.proofs.OfBytes.{strata_of_bytes, lines_of_bytes}
use Rattle.evidence_check.specs.Laws.{HasValidStrataAt}
use Rattle.evidence_check.specs.Members.{IsWrong}
use Rattle.evidence_check.specs.Steps.{StepValue}
use Rattle.evidence_check.specs.Evidences.{steps_of}
use Rattle.evidence_check.specs.Judged.{judged}
use Rattle.evidence_check.specs.declared.judged.Judged.{Judged}
use Rattle.evidence_check.specs.declared.judged.Judged.TheVariants as by
use Rattle.evidence_check.proofs.JudgedLemmas.{judged_right}
use Rattle.token_order.specs.Found.{order_of}
use Rattle.token_order.specs.declared.findings.OrderFindings.{OrderFindings}
use Rattle.findings.specs.Findings.{found_by, if_told, found_on_tokens, found_on, on_line, findings_from, findings_of}
use Rattle.findings.specs.WrongReplies.{HasOnlyWrongRepliesNamed}
use Rattle.findings.specs.declared.finding.Finding.{Finding}
use Rattle.findings.specs.declared.finding.What.{What}
use Rattle.findings.specs.declared.finding.What.TheVariants.{Stale, OldToken, NotLatest, OpenSnapshot, WrongToken, UnknownVersion, WrongReply}

-- ---- what is told of an entry

-- what holds of whatever is found on a line holds of each finding there
pub all_on_line : (P : Finding → Type 0) (line : ℕ) (found : List (Option What)) → AllByRecursion (λ o. IfSome o (λ what. P (record { line = line; what = what }))) found → All P (on_line line found)
all_on_line P line [] h = All-nil P
all_on_line P line (None ∷ found) h = all_on_line P line found h.1
all_on_line P line (Some what ∷ found) h = All-cons P (record { line = line; what = what }) (on_line line found) h.0 (all_on_line P line found h.1)

-- where a wrong reply is found, X holds
abbrev IfWrongReply : Type 0 → Option What → Type 0
IfWrongReply X o = IfSome o (λ what. what ≡ WrongReply → X)

other_told : (X : Type 0) (what : What) (b : Bool) → (what ≡ WrongReply → ⊥) → IfWrongReply X (if_told what b)
other_told X what false other = tt
other_told X what true other = λ e. absurd (other e)

other_mapped : (X : Type 0) (f : ℕ → What) (o : Option ℕ) → ((n : ℕ) → f n ≡ WrongReply → ⊥) → IfWrongReply X (option_map f o)
other_mapped X f None other = tt
other_mapped X f (Some n) other = λ e. absurd (other n e)

judged_wrong : (X : Type 0) (j : Judged) → (j ≡ by.Contradicted → X) → IfWrongReply X (found_by j)
judged_wrong X by.Supported holds = tt
judged_wrong X by.Contradicted holds = λ e. holds refl
judged_wrong X by.Silent holds = λ e. absurd cc
judged_wrong X (by.Bad k) holds = λ e. absurd cc
judged_wrong X by.Missing holds = λ e. absurd cc

-- a wrong reply is found by a contradiction alone
found_wrong : (X : Type 0) (f : OrderFindings) (j : Judged) → (j ≡ by.Contradicted → X) → AllByRecursion (IfWrongReply X) (found_on_tokens f ++ found_by j ∷ [])
found_wrong X f j holds =
    let stale = other_told X Stale f.stale (λ e. cc) in
    let old = other_mapped X OldToken f.old_token (λ n e. cc) in
    let latest = other_mapped X NotLatest f.not_latest (λ n e. cc) in
    let opened = other_mapped X OpenSnapshot f.open_snapshot (λ n e. cc) in
    let token = other_told X WrongToken f.wrong_token (λ e. cc) in
    let version = other_told X UnknownVersion f.unknown_version (λ e. cc) in
    (stale, (old, (latest, (opened, (token, (version, (judged_wrong X j holds, tt)))))))

-- what holds of the line of each entry that is contradicted holds of each line of which a wrong reply is told
told_from : (t : TraceValue) (evidence : List (Option (List StepValue))) (Q : ℕ → Type 0) (first : ℕ) (es : List EntryValue)
    → ((i : ℕ) (e : EntryValue) → slice_get es i ≡ Some e → judged t e (steps_of evidence (first + i)) ≡ by.Contradicted → Q e.line)
    → All (λ f. f.what ≡ WrongReply → Q f.line) (findings_from t evidence first es)
told_from t evidence Q first [] each = All-nil (λ (f : Finding). f.what ≡ WrongReply → Q f.line)
told_from t evidence Q first (x ∷ es) each =
    All-append (λ (f : Finding). f.what ≡ WrongReply → Q f.line) (on_line x.line (found_on t evidence first x)) (findings_from t evidence (first + 1) es)
    (all_on_line (λ f. f.what ≡ WrongReply → Q f.line) x.line (found_on t evidence first x)
    (found_wrong (Q x.line) (order_of t first x) (judged t x (steps_of evidence first)) (λ j. each 0 x refl (at_place x first (first + 0) here j))))
    (told_from t evidence Q (first + 1) es (λ i e at j. each (suc i) e at (at_place e (first + 1 + i) (first + suc i) (next i) j)))
  where
    here : first ≡ first + 0
    here = omega arith

    next : (i : ℕ) → first + 1 + i ≡ first + suc i
    next i = omega arith

    at_place : (e : EntryValue) (m n : ℕ) → m ≡ n → judged t e (steps_of evidence m) ≡ by.Contradicted → judged t e (steps_of evidence n) ≡ by.Contradicted
    at_place e m n same j = subst (λ (k : ℕ). judged t e (steps_of evidence k) ≡ by.Contradicted) same j

-- ---- one entry stands on a line

-- where numbers rise, each has one place
one_place : (ns : List ℕ) → IsStrictlyIncreasing ns → (i k : ℕ) → i < length ns → k < length ns → get_or ns i 0 ≡ get_or ns k 0 → i ≡ k
one_place ns up i k lt less same =
    elim (cases_lt i k) [
      | inl before ↦ let pair = AllPairs-from_increasing ns up i k 0 before less in absurd (omega (arith, pair, same))
      | inr ge ↦ by_last ge (cases_lt k i)
    ]
  where
    by_last : k ≤ i → (k < i) ⊎ (i ≤ k) → i ≡ k
    by_last ge (inl behind) = let pair = AllPairs-from_increasing ns up k i 0 behind lt in absurd (omega (arith, pair, same))
    by_last ge (inr le) = omega (arith, ge, le)

within : (es : List EntryValue) (i : ℕ) (e : EntryValue) → slice_get es i ≡ Some e → i < length es
within [] i e at = absurd cc
within (x ∷ es) zero e at = omega arith
within (x ∷ es) (suc i) e at = let h = within es i e at in omega (arith, h)

pub one_entry : (es : List EntryValue) → IsStrictlyIncreasing (entry_lines es) → (i k : ℕ) (e d : EntryValue) → slice_get es i ≡ Some e → k < length es → e.line ≡ (get_or es k d).line → e ≡ get_or es k d
one_entry es up i k e d at lt same =
    let inside = within es i e at in
    let here : slice_get es i ≡ Some (get_or es i d) = slice_get-get_or es i d inside in
    let found : e ≡ get_or es i d = let p : Some e ≡ Some (get_or es i d) = sym at ∙ here in cc in
    let one = get_or-map (λ (x : EntryValue). x.line) es i d 0 inside in
    let two = get_or-map (λ (x : EntryValue). x.line) es k d 0 lt in
    let long = length-map es (λ (x : EntryValue). x.line) in
    let line : (get_or es i d).line ≡ (get_or es k d).line = sym (ap (λ (x : EntryValue). x.line) found) ∙ same in
    let place : i ≡ k = one_place (entry_lines es) up i k (omega (arith, inside, long)) (omega (arith, lt, long)) (one ∙ line ∙ sym two) in
    found ∙ ap (λ (n : ℕ). get_or es n d) place

-- ---- together

-- an entry whose reply is wrong stands on the line
record HasWrongEntry (t : TraceValue) (line : ℕ) : Type 0 where
  place : ℕ
  entry : EntryValue
  at : slice_get t.entries place ≡ Some entry
  same : entry.line ≡ line
  wrong : IsWrong t entry

pub named_are_wrong : (t : TraceValue) (evidence : List (Option (List StepValue))) → ((at : ℕ) → HasValidStrataAt t at) → IsStrictlyIncreasing (entry_lines t.entries)
    → HasOnlyWrongRepliesNamed t (findings_of t evidence)
named_are_wrong t evidence valid up k d lt c =
    let on = All-contains (λ (f : Finding). f.what ≡ WrongReply → HasWrongEntry t f.line) (findings_of t evidence) (record { line = (get_or t.entries k d).line; what = WrongReply })
    (told_from t evidence (HasWrongEntry t) 0 t.entries entries) c refl in
    subst (IsWrong t) (one_entry t.entries up on.place k on.entry d on.at lt on.same) on.wrong
  where
    entries : (i : ℕ) (e : EntryValue) → slice_get t.entries i ≡ Some e → judged t e (steps_of evidence (0 + i)) ≡ by.Contradicted → HasWrongEntry t e.line
    entries i e at j = record { place = i; entry = e; at = at; same = refl; wrong = judged_right t e (valid e.snapshot) false (steps_of evidence (0 + i)) j }

-- the same of the trace that some bytes say
pub named_by_bytes : (a : List ℕ) (t : TraceValue) (evidence : List (Option (List StepValue))) → trace_of true a ≡ Ok t → HasOnlyWrongRepliesNamed t (findings_of t evidence)
named_by_bytes a t evidence says = named_are_wrong t evidence (strata_of_bytes a t says) (lines_of_bytes a t says)
