-- What is wrong with an entry is told on its line, and an entry on whose line nothing is told is sound.
use Rattle.std.proofs.Common.{◌≡◌, ◌⊎◌, inl, inr, ℕ, ◌<◌, ◌≤◌, List, [], length, get_or, Bool, true, false, Option, None, Some, option_map, Ok, refl, sym, ap, subst, ◌∙◌, arith}
use Rattle.std.specs.Prelude.{All, Contains, IsTrue, IfSome, IsSomeAnd, slice_get}
use Rattle.std.specs.List.Sorted.{IsStrictlyIncreasing}
use Rattle.std.proofs.lemmas.List.Elements.{All-contains, All-nil, Contains-get_or}
use Rattle.std.proofs.lemmas.Option.{slice_get-get_or}
use Rattle.trace_lines.specs.Traces.{trace_of}
use Rattle.trace_lines.specs.Values.{EntryValue, TraceValue, entry_lines}
use Rattle.trace_lines.specs.Versions.{Version, AreIssuedOnce, entry_version, version_named, issues}
use Rattle.trace_lines.specs.declared.entry.EntryKind.TheVariants.{Check, Content}
use Rattle.trace_lines.proofs.OfBytes.{strata_of_bytes, lines_of_bytes, versions_of_bytes}
use Rattle.evidence_check.specs.Evidences.{steps_of}
use Rattle.evidence_check.specs.Judged.{judged}
use Rattle.evidence_check.specs.Laws.{HasValidStrataAt}
use Rattle.evidence_check.specs.Members.{IsRight}
use Rattle.evidence_check.specs.Steps.{StepValue}
use Rattle.evidence_check.specs.declared.judged.Judged.{Judged}
use Rattle.evidence_check.specs.declared.judged.Judged.TheVariants as by
use Rattle.evidence_check.proofs.JudgedLemmas.{judged_right}
use Rattle.token_order.specs.Denied.{IsContentOf}
use Rattle.token_order.specs.Found.{order_of}
use Rattle.token_order.specs.Order.{IsLatest, IsFresh}
use Rattle.token_order.specs.declared.findings.OrderFindings.{OrderFindings}
use Rattle.token_order.proofs.Fresh.{carries, fresh_check, reaches_content}
use Rattle.token_order.proofs.Upholding.{upheld}
use Rattle.findings.specs.EachEntry.{IsTold, IsReplyTold, IsToldOf, IsCleanLine, IsSoundEntry, IsRightAndFreshEntry, SpeaksOfEachEntry}
use Rattle.findings.specs.Findings.{if_told, found_on, findings_of}
use Rattle.findings.specs.Headline.{IsRightAndFresh, IsTraceRightAndFresh}
use Rattle.findings.specs.NewEnemy.{IsCheckOf}
use Rattle.findings.specs.WellFormed.{IsWellFormed}
use Rattle.findings.specs.declared.finding.Finding.{Finding}
use Rattle.findings.specs.declared.finding.What.{What}
use Rattle.findings.specs.declared.finding.What.TheVariants.{Stale, OldToken, NotLatest, OpenSnapshot, WrongToken, UnknownVersion, NoEvidence, BadEvidence, Silent, WrongReply}
use Rattle.findings.proofs.NewEnemyLemmas.{is_check, new_enemy, seen}
use Rattle.findings.proofs.ToldFindings.{by_evidence, told}

-- ---- what is found is told, and what is not holds

-- a truth value that is false gives P, and one that is true is told
by_flag : {P Q : Type 0} (b : Bool) → (b ≡ false → P) → (b ≡ true → Q) → P ⊎ Q
by_flag true holds is_told = inr (is_told refl)
by_flag false holds is_told = inl (holds refl)

by_line : {P : Type 0} {Q : ℕ → Type 0} (o : Option ℕ) → (o ≡ None → P) → ((l : ℕ) → o ≡ Some l → Q l) → P ⊎ ((l : ℕ) × Q l)
by_line None holds is_told = inl (holds refl)
by_line (Some l) holds is_told = inr (l, is_told l refl)

module _ (t : TraceValue) (rising : IsStrictlyIncreasing (entry_lines t.entries)) (once : AreIssuedOnce t.entries)
    (valid : (at : ℕ) → HasValidStrataAt t at) (evidence : List (Option (List StepValue))) where
  abbrev findings : List Finding
  findings = findings_of t evidence

  module _ (i : ℕ) (e : EntryValue) (at : slice_get t.entries i ≡ Some e) where
    abbrev on : OrderFindings
    on = order_of t i e

    told_at : (k : ℕ) (what : What) → k < 7 → get_or (found_on t evidence i e) k (Some what) ≡ Some what → IsTold findings e.line what
    told_at k what lt is = told t evidence i e what at (k, lt, is)

    reply_told : (j : Judged) → judged t e (steps_of evidence i) ≡ j → IsRight t e ⊎ IsReplyTold findings e.line
    reply_told by.Supported is = inl (judged_right t e (valid e.snapshot) true (steps_of evidence i) is)
    reply_told by.Missing is = inr (inl (told t evidence i e NoEvidence at (by_evidence t evidence i e by.Missing NoEvidence is refl)))
    reply_told (by.Bad k) is = inr (inr (inl (k, told t evidence i e (BadEvidence k) at (by_evidence t evidence i e (by.Bad k) (BadEvidence k) is refl))))
    reply_told by.Silent is = inr (inr (inr (inl (told t evidence i e Silent at (by_evidence t evidence i e by.Silent Silent is refl)))))
    reply_told by.Contradicted is =
        inr (inr (inr (inr (told t evidence i e WrongReply at (by_evidence t evidence i e by.Contradicted WrongReply is refl)))))

    told_of : IsToldOf t findings e
    told_of =
        let up = upheld t rising once i e at in
        record {
          fresh = λ check. by_flag on.stale (λ h. up.fresh h check) (λ h. told_at 0 Stale (omega arith) (ap (if_told Stale) h));
          demanded = λ line c of. by_line on.old_token (λ h. up.demanded h line c of) (λ l h. told_at 1 (OldToken l) (omega arith) (ap (option_map OldToken) h));
          latest = λ content. by_line on.not_latest (λ h. up.latest h content) (λ l h. told_at 2 (NotLatest l) (omega arith) (ap (option_map NotLatest) h));
          closed = by_line on.open_snapshot up.closed (λ l h. told_at 3 (OpenSnapshot l) (omega arith) (ap (option_map OpenSnapshot) h));
          token = λ content authorized. by_flag on.wrong_token (λ h. up.token h content authorized) (λ h. told_at 4 WrongToken (omega arith) (ap (if_told WrongToken) h));
          known = λ v named. by_flag on.unknown_version (λ h. up.known h v named) (λ h. told_at 5 UnknownVersion (omega arith) (ap (if_told UnknownVersion) h));
          right = reply_told (judged t e (steps_of evidence i)) refl;
        }

  told_each : All (IsToldOf t findings) t.entries
  told_each k d lt = told_of k (get_or t.entries k d) (slice_get-get_or t.entries k d lt)

-- ---- clean lines

untold : (findings : List Finding) (line : ℕ) (what : What) → IsCleanLine findings line → IsTold findings line what → ⊥
untold findings line what clean is = All-contains (λ (f : Finding). ¬ (f.line ≡ line)) findings (record { line = line; what = what }) clean is refl

reply_untold : (findings : List Finding) (line : ℕ) → IsCleanLine findings line → IsReplyTold findings line → ⊥
reply_untold findings line clean (inl is) = untold findings line NoEvidence clean is
reply_untold findings line clean (inr (inl is)) = untold findings line (BadEvidence is.0) clean is.1
reply_untold findings line clean (inr (inr (inl is))) = untold findings line Silent clean is
reply_untold findings line clean (inr (inr (inr is))) = untold findings line WrongReply clean is

left : {P Q : Type 0} → P ⊎ Q → (Q → ⊥) → P
left (inl p) none = p
left (inr q) none = absurd (none q)

module _ (t : TraceValue) (once : AreIssuedOnce t.entries) (findings : List Finding) (each : All (IsToldOf t findings) t.entries) where
  of_entry : (e : EntryValue) → Contains t.entries e → IsToldOf t findings e
  of_entry e recorded = All-contains (IsToldOf t findings) t.entries e each recorded

  latest_content : (c : EntryValue) → Contains t.entries c → IsCleanLine findings c.line → c.kind ≡ Content → IsLatest t c
  latest_content c recorded clean content =
      left ((of_entry c recorded).latest content) (λ is. untold findings c.line (NotLatest is.0) clean is.1)

  module _ (e : EntryValue) (recorded : Contains t.entries e) (clean : IsCleanLine findings e.line) where
    abbrev of : IsToldOf t findings e
    of = of_entry e recorded

    reached : e.kind ≡ Check → IfSome e.zookie (λ z. z.at ≤ e.snapshot)
    reached check = left (of.fresh check) (untold findings e.line Stale clean)

    demanded : (line : ℕ) (c : EntryValue) → IsContentOf t e line c → IsSomeAnd e.zookie (λ z. c.snapshot ≤ z.at)
    demanded line c is = left (of.demanded line c is) (λ h. untold findings e.line (OldToken h.0) clean h.1)

    known : (v : Version) → version_named e.kind (entry_version e) ≡ Some v → (line : ℕ) × (c : EntryValue) × IsContentOf t e line c
    known v named = left (of.known v named) (untold findings e.line UnknownVersion clean)

    checked : (line : ℕ) (c : EntryValue) → IsContentOf t e line c → IsCheckOf t e c
    checked line c is = record { version = is.version; checked = recorded; named = is.named; recorded = is.recorded; issued = is.issued }

    fresh : e.kind ≡ Check → ((c : EntryValue) → IsCheckOf t e c → IsCleanLine findings c.line) → IsFresh t e
    fresh check contents =
        fresh_check t e (reached check) demanded known
        (λ line c is content. latest_content c is.recorded (contents c (checked line c is)) content)

    -- the version that the check names was issued by one content check
    one_content : (c d : EntryValue) → IsCheckOf t e c → IsCheckOf t e d → d ≡ c
    one_content c d is also =
        let first = there_of c is.recorded in
        let second = there_of d also.recorded in
        let versions : Some also.version ≡ Some is.version = sym also.named ∙ is.named in
        let version : also.version ≡ is.version = cc in
        let issued = subst (λ (v : Version). IsTrue (issues v d)) version also.issued in
        let place = once is.version also.recorded.0 is.recorded.0 d c second first issued is.issued in
        let same : Some d ≡ Some c = sym second ∙ ap (slice_get t.entries) place ∙ first in
        cc
      where
        there_of : (x : EntryValue) (h : Contains t.entries x) → slice_get t.entries h.0 ≡ Some x
        there_of x h = slice_get-get_or t.entries h.0 x h.1 ∙ ap (λ (y : EntryValue). Some y) h.2

    sound : IsSoundEntry t findings e
    sound = record {
      right = left of.right (reply_untold findings e.line clean);
      closed = left of.closed (λ h. untold findings e.line (OpenSnapshot h.0) clean h.1);
      latest = latest_content e recorded clean;
      issued = λ content authorized. carries e.zookie e.snapshot (left (of.token content authorized) (untold findings e.line WrongToken clean));
      reaches_zookie = reached;
      reaches_content = λ check v named.
          let by = known v named in
          (by.0, by.1, by.2, reaches_content t e (reached check) demanded by.0 by.1 by.2);
      fresh = fresh;
      seen = λ c is clean_content.
          let contents : (d : EntryValue) → IsCheckOf t e d → IsCleanLine findings d.line =
          λ d also. subst (λ (x : EntryValue). IsCleanLine findings x.line) (sym (one_content c d is also)) clean_content in
          seen t once e c is (fresh (is_check t e c is) contents);
    }

  sound_each : All (λ e. IsCleanLine findings e.line → IsSoundEntry t findings e) t.entries
  sound_each k d lt = sound (get_or t.entries k d) (Contains-get_or t.entries k d lt)

  -- the content checks that an entry before the line names stand before it too
  before_each : (n : ℕ) → All (λ f. n < f.line) findings → All (λ e. e.line ≤ n → IsRightAndFreshEntry t e) t.entries
  before_each n later k d lt le = record {
    right = is.right;
    closed = is.closed;
    latest = is.latest;
    issued = is.issued;
    fresh = λ check. is.fresh check contents;
  }
    where
      recorded : Contains t.entries (get_or t.entries k d)
      recorded = Contains-get_or t.entries k d lt

      clean : (line : ℕ) → line ≤ n → IsCleanLine findings line
      clean line within j f less same = let above = later j f less in omega (arith, within, above, same)

      is : IsSoundEntry t findings (get_or t.entries k d)
      is = sound (get_or t.entries k d) recorded (clean _ le)

      contents : (c : EntryValue) → IsCheckOf t (get_or t.entries k d) c → IsCleanLine findings c.line
      contents c of =
          let by = known (get_or t.entries k d) recorded (clean _ le) of.version of.named in
          let same = one_content (get_or t.entries k d) recorded (clean _ le) by.1 c (checked (get_or t.entries k d) recorded (clean _ le) by.0 by.1 by.2) of in
          let earlier = by.2.earlier in
          subst (λ (x : EntryValue). IsCleanLine findings x.line) (sym same) (clean by.1.line (omega (arith, earlier, le)))

-- ---- together

pub speaks_of_each : (t : TraceValue) → IsWellFormed t → (evidence : List (Option (List StepValue)))
    → SpeaksOfEachEntry t (findings_of t evidence)
speaks_of_each t is evidence =
    let told = told_each t is.lines is.versions is.strata evidence in
    record {
      told = told;
      sound = sound_each t is.versions (findings_of t evidence) told;
      before = before_each t is.versions (findings_of t evidence) told;
    }

pub formed_by_bytes : (a : List ℕ) (t : TraceValue) → trace_of true a ≡ Ok t → IsWellFormed t
formed_by_bytes a t says = record { lines = lines_of_bytes a t says; versions = versions_of_bytes a t says; strata = strata_of_bytes a t says }

-- of the trace that some bytes say
pub entries_by_bytes : (a : List ℕ) (t : TraceValue) (evidence : List (Option (List StepValue))) → trace_of true a ≡ Ok t
    → SpeaksOfEachEntry t (findings_of t evidence)
entries_by_bytes a t evidence says = speaks_of_each t (formed_by_bytes a t says) evidence

-- where nothing is found, each line is clean
pub right_and_fresh : (t : TraceValue) (findings : List Finding) → SpeaksOfEachEntry t findings → findings ≡ [] → IsRightAndFresh t
right_and_fresh t findings speaks none = record {
  right = λ k d lt. (whole k d lt).right;
  fresh = record {
    latest = λ k d lt. (whole k d lt).latest;
    closed = λ k d lt. (whole k d lt).closed;
    fresh = λ k d lt. (whole k d lt).fresh;
    issued = λ k d lt. (whole k d lt).issued;
  };
}
  where
    whole : (k : ℕ) (d : EntryValue) → k < length t.entries → IsRightAndFreshEntry t (get_or t.entries k d)
    whole k d lt = speaks.before (get_or t.entries k d).line (rw none (All-nil (λ (f : Finding). (get_or t.entries k d).line < f.line))) k d lt (omega arith)

pub headline_by_bytes : (a : List ℕ) (t : TraceValue) → trace_of true a ≡ Ok t → IsRightAndFresh t → IsTraceRightAndFresh a
headline_by_bytes a t says clean = record {
  trace = t;
  said = says;
  right_and_fresh = clean;
  no_new_enemy = new_enemy t (versions_of_bytes a t says) clean.fresh;
}
