-- Records that are judged as they are read, beside records that are kept.
use Rattle.std.proofs.Common.{◌≡◌, ◌≢◌, ℕ, zero, suc, ◌<◌, Bool, true, false, not, ltb, ◌||◌, List, [], ◌∷◌, length, Option, Some, None, Result, Ok, Err, inl, inr, arith, refl, sym, ap, subst, ◌∙◌}
use Rattle.std.specs.declared.alloc.Global.{Global}
use Rattle.std.specs.declared.vec.Vec.{Vec}
use Rattle.std.specs.Prelude.{replicate, slice_get, slice_set, unwrap_or, if◌then◌else◌}
use Rattle.std.proofs.lemmas.Bool.Decides.{eqb_tells}
use Rattle.std.proofs.lemmas.List.{get_or-replicate, length-replicate}
use Rattle.std.proofs.lemmas.Option.{slice_get-get_or, slice_get_cases, slice_get_past, slice_get_within}
use Rattle.refusals.specs.Refusals.{◌>>=◌, Unless}
use Rattle.serde_json.specs.Data.{Data}
use Rattle.serde_json.specs.Read.{read}
use Rattle.std.specs.Str.{is_utf8}
use Rattle.json_lines.specs.Json.{is_blank, json_line, of_json, taken_line}
use Rattle.json_lines.specs.Reading.{cause_of, read_all, IsOfSomeLine}
use Rattle.json_lines.specs.declared.reading.LineFault.{LineFault}
use Rattle.json_lines.specs.InputRead.{LinesRead}
use Rattle.json_lines.proofs.InputReads.{answered}
use Rattle.json_lines.proofs.ReadFaults.{retold}
use Rattle.json_lines.proofs.Simulated.{Match, match_bind, match_if, both_read}
use Rattle.marks.proofs.PlacedLemmas.{length-set}
use Rattle.trace_lines.specs.Values.{TraceValue, EntryValue}
use Rattle.namespaces.specs.Lookup.{rule_at}
use Rattle.version_chains.specs.Commits.{store_at}
use Rattle.evidence_check.specs.Accepted.{after_steps, nothing_known}
use Rattle.evidence_check.specs.Causes.{of_input, is_memory, is_read}
use Rattle.evidence_check.specs.Evidences.{steps_of}
use Rattle.evidence_check.specs.Judged.{by_reply, by_steps, first_bad, is_among, judged}
use Rattle.evidence_check.specs.Judging.{AreJudged, GivesJudged, is_judged, judge_line, judged_by, no_judgements, put_judged}
use Rattle.evidence_check.specs.Reading.{EvidenceRead, evidence_of, fact_count, faulted, is_taken, no_records, placed_steps, put_steps, record_line}
use Rattle.evidence_check.specs.Records.{Judgements, Records}
use Rattle.evidence_check.specs.Steps.{StepValue}
use Rattle.evidence_check.proofs.LineCauses.{judging_own}
use Rattle.judgement.specs.Judgement.{KnownValue}
use Rattle.evidence_check.specs.declared.cause.EvidenceCause.{EvidenceCause}
use Rattle.evidence_check.specs.declared.cause.EvidenceCause.TheVariants as causes
use Rattle.evidence_check.specs.declared.cause.EvidenceFault.{EvidenceFault}
use Rattle.evidence_check.specs.declared.judged.Judged.{Judged}
use Rattle.evidence_check.specs.declared.judged.Judged.TheVariants as by

-- ---- lists

set_here : {X : Type 0} (xs : List X) (i : ℕ) (y : X) → i < length xs → slice_get (slice_set xs i y) i ≡ Some y
set_here [] i y h = absurd (omega (arith, h))
set_here (x ∷ xs) zero y h = refl
set_here (x ∷ xs) (suc i) y h = set_here xs i y (omega (arith, h))

set_other : {X : Type 0} (xs : List X) (i k : ℕ) (y : X) → k ≢ i → slice_get (slice_set xs i y) k ≡ slice_get xs k
set_other [] i k y h = refl
set_other (x ∷ xs) zero zero y h = absurd (h refl)
set_other (x ∷ xs) zero (suc k) y h = refl
set_other (x ∷ xs) (suc i) zero y h = refl
set_other (x ∷ xs) (suc i) (suc k) y h = set_other xs i k y (λ e. h (ap suc e))

at_replicate : {X : Type 0} (n i : ℕ) (x : X) → i < n → slice_get (replicate n x) i ≡ Some x
at_replicate n i x h =
    let len = length-replicate n x in
    slice_get-get_or (replicate n x) i x (omega (arith, h, len)) ∙ ap (λ y. Some y) (get_or-replicate n i x x h)

-- ---- one for the other

-- what is judged so far is judged by what is kept so far
pub record IsJudgedBy (t : TraceValue) (r : Records) (j : Judgements) : Type 0 where
  pub trace : j.trace ≡ t
  pub lines : j.lines ≡ r.lines
  pub count : length r.steps ≡ length t.entries
  pub judgements : AreJudged t r.steps j.judgements

reply_judged : (b : Bool) → is_judged (Some (by_reply b)) ≡ true
reply_judged true = refl
reply_judged false = refl

goal_judged : (given denied reply : Bool) → is_judged (Some (if given then by_reply reply else (if denied then by_reply (not reply) else by.Silent))) ≡ true
goal_judged true denied reply = reply_judged reply
goal_judged false true reply = reply_judged (not reply)
goal_judged false false reply = refl

steps_judged : (bad : Option ℕ) (known : KnownValue) (e : EntryValue) → is_judged (Some (by_steps bad known e)) ≡ true
steps_judged (Some k) known e = refl
steps_judged None known e = goal_judged (is_among known.yes e.goal) (is_among known.no e.goal) e.reply

same_taken : (t : TraceValue) (e : EntryValue) (given : Option (Option (List StepValue))) → is_taken given ≡ is_judged (Some (judged t e (unwrap_or given None)))
same_taken t e None = refl
same_taken t e (Some None) = refl
same_taken t e (Some (Some steps)) =
    sym (steps_judged (first_bad (rule_at t.declarations e.snapshot) (store_at t.commits e.snapshot) nothing_known 1 steps) (after_steps nothing_known steps) e)

module _ (t : TraceValue) (r : Records) (j : Judgements) (h : IsJudgedBy t r j) where
  taken_alike : (place : ℕ) → is_taken (slice_get r.steps place) ≡ is_judged (slice_get j.judgements place)
  taken_alike place = elim ((slice_get_cases t.entries place).1) [
    | inl w ↦ same_taken t w.0 (slice_get r.steps place) ∙ ap is_judged (sym (h.judgements.1 place w.0 w.2))
    | inr past ↦
        let first : slice_get r.steps place ≡ None = slice_get_past r.steps place (let c = h.count in omega (arith, past.0, c)) in
        let second : slice_get j.judgements place ≡ None = slice_get_past j.judgements place (let c = h.judgements.0 in omega (arith, past.0, c)) in
        ap is_taken first ∙ ap is_judged (sym second)
  ]

  put_here : (place : ℕ) (steps : List StepValue) (i : ℕ) (e : EntryValue) → slice_get t.entries i ≡ Some e → i ≡ place
      → slice_get (slice_set j.judgements place (judged_by t (slice_get t.entries place) steps)) i ≡ Some (judged t e (steps_of (slice_set r.steps place (Some steps)) i))
  put_here place steps i e at same =
      let within = slice_get_within t.entries i e at in
      let one : slice_get (slice_set j.judgements place (judged_by t (slice_get t.entries place) steps)) i ≡ Some (judged_by t (slice_get t.entries place) steps) =
      rw same (set_here j.judgements place _ (let c = h.judgements.0 in omega (arith, within, same, c))) in
      let other : slice_get (slice_set r.steps place (Some steps)) i ≡ Some (Some steps) = rw same (set_here r.steps place _ (let c = h.count in omega (arith, within, same, c))) in
      let entry : slice_get t.entries place ≡ Some e = subst (λ (k : ℕ). slice_get t.entries k ≡ Some e) same at in
      one ∙ ap (λ (o : Option EntryValue). Some (judged_by t o steps)) entry ∙ ap (λ (o : Option (Option (List StepValue))). Some (judged t e (unwrap_or o None))) (sym other)

  put_other : (place : ℕ) (steps : List StepValue) (v : Judged) (i : ℕ) (e : EntryValue) → slice_get t.entries i ≡ Some e → i ≢ place
      → slice_get (slice_set j.judgements place v) i ≡ Some (judged t e (steps_of (slice_set r.steps place (Some steps)) i))
  put_other place steps v i e at other =
      set_other j.judgements place i v other ∙ h.judgements.1 i e at
      ∙ ap (λ (o : Option (Option (List StepValue))). Some (judged t e (unwrap_or o None))) (sym (set_other r.steps place i (Some steps) other))

  put_both : (place : ℕ) (steps : List StepValue)
      → IsJudgedBy t (record r { steps = slice_set r.steps place (Some steps) }) (record j { judgements = slice_set j.judgements place (judged_by j.trace (slice_get j.trace.entries place) steps) })
  put_both place steps = record {
    trace = h.trace;
    lines = h.lines;
    count = length-set r.steps place (Some steps) ∙ h.count;
    judgements = rw h.trace (
      length-set j.judgements place _ ∙ h.judgements.0,
      λ i e at. elim (eqb_tells i place) [
        | inl same ↦ put_here place steps i e at same.1
        | inr other ↦ put_other place steps _ i e at other.1
      ],
    );
  }

  put_match : (place : ℕ) (steps : List StepValue) → Match (IsJudgedBy t) (put_steps r place steps) (put_judged j place steps)
  unfolding put_steps put_judged
  put_match place steps =
      rw (taken_alike place)
      (match_if (IsJudgedBy t) (is_judged (slice_get j.judgements place)) _ _ _ _ refl
      (match_if (IsJudgedBy t) (ltb 100000 (fact_count steps)) _ _ _ _ refl (put_both place steps)))

  record_match : (d : Data) → Match (IsJudgedBy t) (record_line r d) (judge_line j d)
  unfolding record_line judge_line
  record_match d =
      subst (λ (lines : List ℕ). Match (IsJudgedBy t) (record_line r d) (placed_steps lines d >>= λ p. put_judged j p.0 p.1)) (sym h.lines)
      (match_bind (IsJudgedBy t) (placed_steps r.lines d) _ _ (λ p. put_match p.0 p.1))

json_match : {S T C : Type 0} (R : S → T → Type 0) (not_json : C) (one : Data → Result S C) (other : Data → Result T C) → ((d : Data) → Match R (one d) (other d)) → (o : Option Data)
    → Match R (of_json not_json one o) (of_json not_json other o)
json_match R not_json one other h None = refl
json_match R not_json one other h (Some d) = h d

line_match : (t : TraceValue) (n : ℕ) (r : Records) (j : Judgements) (line : List ℕ) → IsJudgedBy t r j
    → Match (IsJudgedBy t) (taken_line causes.NotJson (λ n. record_line) n r line) (taken_line causes.NotJson (λ n. judge_line) n j line)
unfolding json_line
line_match t n r j line h =
    match_if (IsJudgedBy t) (is_blank line) _ _ _ _ h
    (match_if (IsJudgedBy t) (is_utf8 line) _ _ _ _ (json_match (IsJudgedBy t) causes.NotJson (record_line r) (judge_line j) (record_match t r j h) (read line)) refl)

none_judged : (t : TraceValue) → IsJudgedBy t (no_records t.entries) (no_judgements t)
none_judged t = record {
  trace = refl;
  lines = refl;
  count = length-replicate (length t.entries) None;
  judgements = (
    length-replicate (length t.entries) by.Missing,
    λ i e at.
        let within = slice_get_within t.entries i e at in
        at_replicate (length t.entries) i by.Missing within
        ∙ ap (λ (o : Option (Option (List StepValue))). Some (judged t e (unwrap_or o None))) (sym (at_replicate (length t.entries) i None within)),
  );
}

-- ---- the whole input

abbrev pub judging : ℕ → Judgements → List ℕ → Result Judgements EvidenceCause
judging = taken_line causes.NotJson (λ n. judge_line)

-- the judgements that reading gives, or its fault
abbrev pub judgements_told : Result Judgements (LineFault EvidenceCause) → Result (List Judged) EvidenceFault
judgements_told (Ok j) = Ok j.judgements
judgements_told (Err e) = Err (record { line = e.line; cause = cause_of of_input e.stop })

both : (t : TraceValue) (whole : Bool) (input : List ℕ)
    → Match (IsJudgedBy t) (read_all (taken_line causes.NotJson (λ n. record_line)) whole (no_records t.entries) input) (read_all judging whole (no_judgements t) input)
both t whole input = both_read (IsJudgedBy t) _ _ (line_match t) whole (no_records t.entries) (no_judgements t) input (none_judged t)

-- where the input is judged, it gives evidence that judges so
pub judged_by_evidence : (t : TraceValue) (input : List ℕ) (j : Judgements) → read_all judging true (no_judgements t) input ≡ Ok j
    → (evidence : List (Option (List StepValue))) × (evidence_of t.entries true input ≡ Ok evidence) × AreJudged t evidence j.judgements
judged_by_evidence t input j is =
    by_kept (read_all (taken_line causes.NotJson (λ n. record_line)) true (no_records t.entries) input)
    (subst (λ (y : Result Judgements (LineFault EvidenceCause)). Match (IsJudgedBy t) (read_all (taken_line causes.NotJson (λ n. record_line)) true (no_records t.entries) input) y) is (both t true input))
  where
    by_kept : (x : Result Records (LineFault EvidenceCause)) → Match (IsJudgedBy t) x (Ok j)
        → (evidence : List (Option (List StepValue))) × (faulted x ≡ Ok evidence) × AreJudged t evidence j.judgements
    by_kept (Ok r) h = (r.steps, refl, h.judgements)
    by_kept (Err e) h = absurd h

-- and where it is refused, the evidence is refused by the same
pub refused_by_evidence : (t : TraceValue) (whole : Bool) (input : List ℕ) (e : EvidenceFault) → judgements_told (read_all judging whole (no_judgements t) input) ≡ Err e
    → evidence_of t.entries whole input ≡ Err e
refused_by_evidence t whole input e = by_both (read_all (taken_line causes.NotJson (λ n. record_line)) whole (no_records t.entries) input) (read_all judging whole (no_judgements t) input) (both t whole input)
  where
    by_both : (x : Result Records (LineFault EvidenceCause)) (y : Result Judgements (LineFault EvidenceCause)) → Match (IsJudgedBy t) x y → judgements_told y ≡ Err e → faulted x ≡ Err e
    by_both (Ok r) (Ok j) h is = absurd cc
    by_both (Ok r) (Err f) h is = absurd h
    by_both (Err d) (Ok j) h is = absurd h
    by_both (Err d) (Err f) h is =
        let same : record { line = f.line; cause = cause_of of_input f.stop } ≡ e = cc (is) in
        ap (λ (f : LineFault EvidenceCause). Err (record { line = f.line; cause = cause_of of_input f.stop })) h ∙ ap (λ (f : EvidenceFault). Err f) same

pub unless_also : (b : Bool) (P Q : Type 0) → (P → Q) → Unless b P → Unless b Q
unless_also true P Q f h = tt
unless_also false P Q f h = f h

-- ---- judgements that were made as evidence was read

from_none : (t : TraceValue) (start : Judgements) → start ≡ no_judgements t → (whole : Bool) (input : List ℕ)
    (P : Result Judgements (LineFault EvidenceCause) → Type 0)
    → P (read_all judging whole start input) → P (read_all judging whole (no_judgements t) input)
from_none t start none whole input P h = subst (λ (s : Judgements). P (read_all judging whole s input)) none h

module _ {R T : Type 0} (given : R → List ℕ) (ends failures : R → ℕ) (remaining : R → Option (List ℕ)) (old new : R)
    (t : TraceValue) (start now : Judgements) (none : start ≡ no_judgements t) where
  pub judged_read : (u : T) (v : Vec Judged Global) → v.items ≡ now.judgements
      → LinesRead given ends failures remaining judging old new start now (Ok u)
      → EvidenceRead (GivesJudged t) t.entries given ends failures remaining old new (Ok v)
  judged_read u v same read =
      answered _ _ _ _ _ _ _ _ given ends failures remaining old new u v
      (λ input is. rw same (judged_by_evidence t input now (from_none t start none true input (λ r. r ≡ Ok now) is))) read

  pub refused_read : (fault : LineFault EvidenceCause) (cause : EvidenceCause) → cause ≡ cause_of of_input fault.stop
      → IsOfSomeLine judging fault
      → LinesRead {T = T} given ends failures remaining judging old new start now (Err fault)
      → EvidenceRead (GivesJudged t) t.entries given ends failures remaining old new
      (Err (record { line = fault.line; cause = cause }))
  refused_read fault cause is some read =
      retold judging of_input judgements_told (λ e. is_memory e.cause || is_read e.cause) _ _ _ _ given ends failures
      remaining old new start now fault (record { line = fault.line; cause = cause }) (rw is refl) refl judging_own some
      (λ e. sym is ∙ e) (λ stop. is ∙ ap (cause_of of_input) stop) (λ h. rw (is, h) refl) (λ h. rw (is, h) refl)
      (λ input h. unless_also (is_memory cause || is_read cause) _ _ (refused_by_evidence t true input _)
      (from_none t start none true input (λ r. Unless (is_memory cause || is_read cause)
      (judgements_told r ≡ Err (record { line = fault.line; cause = cause }))) h))
      (λ came h. refused_by_evidence t false came _
      (from_none t start none false came (λ r. judgements_told r ≡ Err (record { line = fault.line; cause = cause })) h)) read
