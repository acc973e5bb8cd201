-- A whole trace that was followed, to its end.
use Rattle.std.proofs.Common.{◌≡◌, inl, inr, ℕ, ◌+◌, ◌<◌, List, [], ◌∷◌, ◌++◌, length, take, Option, Result, Ok, Err, refl, sym, ◌∙◌, ap, subst, arith, append_assoc, append-nil}
use Rattle.std.specs.Prelude.{All, IsPermutation, sum_by}
use Rattle.std.specs.List.{flat_map}
use Rattle.std.proofs.Math.Seq.{take-append_seam, take-append-add}
use Rattle.std.proofs.lemmas.List.Sorted.{sum_by-IsPermutation}
use Rattle.std.proofs.lemmas.List.Sums.{sum_by-cons}
use Rattle.userset_index.specs.Index.{IndexValue}
use Rattle.trace_lines.specs.Traces.{trace_of}
use Rattle.trace_lines.specs.Values.{TraceValue}
use Rattle.evidence_check.specs.Steps.{StepValue}
use Rattle.findings.specs.Findings.{findings_of}
use Rattle.findings.specs.Headline.{IsRightAndFresh, IsTraceRightAndFresh}
use Rattle.findings.specs.Report.{last_lines, line_text}
use Rattle.findings.specs.declared.finding.Finding.{Finding}
use Rattle.findings.proofs.EachEntryLemmas.{headline_by_bytes}
use Rattle.follow_laws.specs.Told.{all_told, told_between}
use Rattle.monitor.specs.SoFar.{IsTold}
use Rattle.monitor.specs.Telling.{TellsLeft}
use Rattle.monitor.specs.Whole.{TellsAll}
use Rattle.monitor.proofs.RunLemmas.{from_first, told_all}
use Rattle.runs.specs.Kept.{KeptValue}
use Rattle.audit.specs.Audit.{verdict_of}
use Rattle.audit.specs.Devices.{Reading, Writer, OfWhole}
use Rattle.audit.specs.Made.{IsMade}
use Rattle.audit.specs.MadeAudit.{SpeaksOfMade}
use Rattle.audit.specs.Parts.{Told}
use Rattle.audit.specs.declared.plain.Verdict.{Verdict}
use Rattle.audit.specs.declared.plain.Verdict.TheVariants.{Clean}
use Rattle.audit.specs.declared.plain.AuditFault.{AuditFault}
use Rattle.audit.specs.declared.plain.AuditFault.TheVariants as faults
use Rattle.audit.proofs.MadeAuditLemmas.{speaks_of_made}
use Rattle.carry_laws.specs.declared.known.Known.{Known}
use Rattle.follow.specs.Following.{Ends, Followed, Follows, WentOut}
use Rattle.follow.specs.Heartbeats.{AreTrue}
use Rattle.follow.specs.Pieces.{text_of, told_in}
use Rattle.follow.specs.Running as running
use Rattle.follow.specs.Running.{Run}
use Rattle.follow.specs.Lines.{IsSoFar, TellsLines}
use Rattle.follow.specs.SoFar.{TellsRest}
use Rattle.carry_laws.specs.Asked.{all_known, asked}
use Rattle.follow.specs.Told.{IsToldFrom, IsToldOf}
use Rattle.follow.specs.declared.follower.Follower.{Follower}
use Rattle.carry_laws.proofs.AskLemmas.{all_asked, asked_of_all}
use Rattle.follow.proofs.BeatLemmas.{are_true, are_true_so_far}
use Rattle.follow.proofs.RunLemmas.{failed_at_last, held_on, never_failed, stopped, stopped_alike, IsFine}

-- ---- what was told of a trace from its first line on

told_of : (lines : List ℕ) (told : List Finding) → IsToldFrom trace_of 0 all_known lines told → IsToldOf lines told
told_of lines told h = record {
  trace = h.trace;
  said = h.said;
  given = h.given;
  line = h.line;
  made = h.made;
  is = h.is ∙ all_asked h.trace (told_between h.trace h.given 0 h.line) ∙ from_first h.trace h.given h.line;
}

pub went_whole : (came old new : List ℕ) → IsSoFar trace_of 0 all_known came old new → WentOut came old new
went_whole came old new h = record {
  pieces = h.pieces;
  ending = h.ending;
  bytes = h.bytes;
  went = h.went;
  lines = h.lines;
  rest = h.rest;
  among = h.among;
  told = told_of h.lines (told_in h.pieces) h.told;
  beats = h.beats;
  ends = elim h.ends [
    | inl none ↦ inl none
    | inr some ↦ absurd some.1
  ];
}

-- ---- the end

nil_permuted : (found : List Finding) → IsPermutation [] found → found ≡ []
nil_permuted [] same = refl
nil_permuted (x ∷ found) same =
    let one : Finding → ℕ = λ f. 1 in
    let none : sum_by one (x ∷ found) ≡ 0 = sum_by-IsPermutation one [] (x ∷ found) same in
    let some = sum_by-cons one x found in
    absurd (omega (arith, none, some))

none_told : (fs : List Finding) → Clean ≡ verdict_of fs → [] ≡ fs
none_told [] is = refl
none_told (x ∷ fs) is = cc

nothing_found : (told found : List Finding) → [] ≡ told → IsPermutation told found → found ≡ []
nothing_found told found none same =
    nil_permuted found (subst (λ (fs : List Finding). IsPermutation fs found) (sym none) same)

module _ (used start taken : List ℕ) (f : Follower) (k : KeptValue) (v : IndexValue) (n : ℕ)
    (lines : TellsLines trace_of f used start taken (k, v, n)) (first : f.first ≡ 0) (knows : f.known ≡ all_known) where
  told_so_far : f.told.items ≡ lines.followed.all
  told_so_far = lines.followed.asked_alone ∙ asked_of_all f.known knows k.log lines.followed.all

  told_from_first : IsTold IsMade 0 k.log f.monitor [] lines.followed.all
  told_from_first = subst (λ (n : ℕ). IsTold IsMade n k.log f.monitor [] lines.followed.all) first lines.followed.told

  told_lines : IsToldOf used (told_in lines.pieces)
  told_lines = record {
    trace = k.log;
    said = lines.said;
    given = told_from_first.given;
    line = told_from_first.line;
    made = told_from_first.allowed;
    is = sym lines.same ∙ told_so_far ∙ told_from_first.told ∙ from_first k.log told_from_first.given told_from_first.line;
  }

  beats_so_far : (u : TraceValue) → running.GoesOnAs trace_of used u → AreTrue u lines.pieces []
  beats_so_far u goes = are_true_so_far u lines.pieces (lines.longer u goes) lines.silent

  pub nothing_more : (now : List ℕ) → now ≡ taken → WentOut used start now
  nothing_more now same = record {
    pieces = lines.pieces;
    ending = [];
    bytes = length (text_of lines.pieces);
    went = same ∙ lines.went ∙ ap (λ (l : List ℕ). start ++ l) (sym (take-append_seam (text_of lines.pieces) []));
    lines = used;
    rest = [];
    among = sym (append-nil used);
    told = told_lines;
    beats = beats_so_far;
    ends = inl refl;
  }

module _ (used start taken : List ℕ) (f g : Follower) (k : KeptValue) (v : IndexValue) (n : ℕ)
    (lines : TellsLines trace_of f used start taken (k, v, n)) (first : f.first ≡ 0) (knows : f.known ≡ all_known)
    (text : List ℕ) (tells : TellsRest k.log f g text) where
  abbrev t : TraceValue
  t = k.log

  abbrev rest : List Finding
  rest = asked f.known t tells.rest

  abbrev told_here : IsTold IsMade 0 t f.monitor [] lines.followed.all
  told_here = told_from_first used start taken f k v n lines first knows

  left : TellsLeft IsMade t lines.followed.all (lines.followed.all ++ tells.rest)
  left = (tells.left.0, tells.left.1, ap (λ (fs : List Finding). lines.followed.all ++ fs) tells.left.2)

  all : TellsAll IsMade t [] (lines.followed.all ++ tells.rest)
  all = told_all t tells.placed tells.good.rising.entries IsMade f.monitor [] lines.followed.all
      (lines.followed.all ++ tells.rest) tells.good told_here lines.all left

  told_whole : lines.followed.all ++ tells.rest ≡ told_in lines.pieces ++ rest
  told_whole = ap (λ (fs : List Finding). fs ++ tells.rest) (sym (told_so_far used start taken f k v n lines first knows) ∙ lines.same)
      ∙ ap (λ (fs : List Finding). told_in lines.pieces ++ fs) (sym (asked_of_all f.known knows t tells.rest))

  told_now : g.told.items ≡ told_in lines.pieces ++ rest
  told_now = tells.behind ∙ ap (λ (fs : List Finding). fs ++ rest) lines.same

  end_told : (w : Verdict) → w ≡ verdict_of g.told.items → Ends used lines.pieces text w
  end_told w is = record {
    trace = t;
    said = lines.said;
    rest = rest;
    all = subst (TellsAll IsMade t []) told_whole all;
    beats = are_true t lines.pieces rest lines.through lines.silent (λ earlier later p h is here.
        subst (All (λ (x : Finding). h.line < x.line)) (sym (asked_of_all f.known knows t tells.rest))
        (tells.silent h.line (lines.past earlier later p h is here)));
    text = tells.is ∙ ap (λ (fs : List Finding). flat_map line_text rest ++ last_lines fs (length t.entries)) told_now;
    verdict = is ∙ ap verdict_of told_now;
  }

  pub end_went : (w : Verdict) → w ≡ verdict_of g.told.items → (now : List ℕ) → now ≡ taken ++ text → Follows used start now w
  end_went w is now went = (
    lines.pieces,
    text,
    end_told w is,
    went ∙ ap (λ (l : List ℕ). l ++ text) lines.went ∙ append_assoc start (text_of lines.pieces) text,
  )

  pub end_part : (w : Verdict) → w ≡ verdict_of g.told.items → (now : List ℕ) (bytes : ℕ) → now ≡ taken ++ take bytes text
      → WentOut used start now
  end_part w is now bytes went = record {
    pieces = lines.pieces;
    ending = text;
    bytes = length (text_of lines.pieces) + bytes;
    went = went ∙ ap (λ (l : List ℕ). l ++ take bytes text) lines.went ∙ append_assoc start (text_of lines.pieces) (take bytes text)
        ∙ ap (λ (l : List ℕ). start ++ l) (sym (take-append-add (text_of lines.pieces) text bytes));
    lines = used;
    rest = [];
    among = sym (append-nil used);
    told = told_lines used start taken f k v n lines first knows;
    beats = beats_so_far used start taken f k v n lines first knows;
    ends = inr (w, end_told w is);
  }

  pub end_clean : Clean ≡ verdict_of g.told.items
      → ((evidence : List (Option (List StepValue))) → findings_of t evidence ≡ [] → IsRightAndFresh t)
      → IsTraceRightAndFresh used
  end_clean is law = headline_by_bytes used t lines.said (law all.given (nothing_found (all_told t all.given)
      (findings_of t all.given) (none_told g.told.items is ∙ told_now ∙ sym told_whole ∙ all.told) all.once))

-- ---- what is answered

pub not_followed : (trace : Reading) (one two : Writer) (e : AuditFault) (f : Follower) → f.first ≡ 0 → f.known ≡ all_known
    → {V : Type 0} (Lines : List ℕ → List ℕ → List ℕ → V → Type 0)
    → Run trace_of Lines (IsSoFar trace_of f.first f.known) trace (record { before = one; after = two }) (Err e)
    → Followed trace (record { before = one; after = two }) (Err e)
not_followed trace one two e f first knows Lines run = record {
  run = stopped_alike trace_of Lines Follows (IsSoFar trace_of f.first f.known) WentOut
      (λ came old new h. went_whole came old new (subst (λ (n : ℕ). IsSoFar trace_of n all_known came old new) first
      (subst (λ (b : Known). IsSoFar trace_of f.first b came old new) knows h)))
      trace (record { before = one; after = two }) e run;
  headline = λ is. absurd (cc (is));
  made = tt;
}

module _ (trace : Reading) (one two three : Writer) (f g : Follower) (k : KeptValue) (v : IndexValue) (n : ℕ)
    (first : f.first ≡ 0) (knows : f.known ≡ all_known) {Stands : List ℕ → List ℕ → List ℕ → Type 0}
    (run : Run trace_of (TellsLines trace_of f) Stands trace (record { before = one; after = two }) (Ok (k, v, n))) where
  abbrev came : List ℕ
  came = run.follows.1.0

  lines : TellsLines trace_of f came one.taken two.taken (k, v, n)
  lines = run.follows.1.2

  fine : IsFine trace
  fine = record { most = run.most; known = run.known; kept = run.kept.0 }

  whole : (P : List ℕ → Type 0) → P came → OfWhole trace P
  whole P h = (run.follows.0, (came, run.follows.1.1, h))

  -- the end was told, or that was stopped
  pub ended : (result : Result Verdict AuditFault)
      → ((evidence : List (Option (List StepValue))) → findings_of k.log evidence ≡ [] → IsRightAndFresh k.log)
      → Told (λ text w. TellsRest k.log f g text × (w ≡ verdict_of g.told.items)) (record { before = two; after = three }) result
      → Followed trace (record { before = one; after = three }) result
  ended (Ok w) law told =
      let says = told.text.1 in record {
        run = record {
          follows = whole (λ a. Follows a one.taken three.taken w)
              (end_went came one.taken two.taken f g k v n lines first knows told.text.0 says.0 w says.1 three.taken told.text.2);
          stands = tt;
          trace_refused = λ x is. absurd (cc (is));
          trace_cut = λ x is. absurd (cc (is));
          most = fine.most;
          known = fine.known;
          held = held_on one two three run.held told.held;
          devices = tt;
          kept = (fine.kept, never_failed one two three run.kept.1 told.kept);
          unfailed = tt;
        };
        headline = λ clean. whole IsTraceRightAndFresh
            (end_clean came one.taken two.taken f g k v n lines first knows told.text.0 says.0 (cc (clean) ∙ says.1) law);
        made = whole SpeaksOfMade (speaks_of_made came k.log lines.said);
      }
  ended (Err e) law told = record {
    run = stopped trace_of Follows WentOut trace (record { before = one; after = three }) e told.kinds fine
        (came, run.follows.1.1, by_fault e told) (held_on one two three run.held told.held)
        (λ writes. failed_at_last one two three run.kept.1 (told.failed writes))
        (λ others. never_failed one two three run.kept.1 (told.unfailed others));
    headline = λ is. absurd (cc (is));
    made = tt;
  }
    where
      nothing : three.taken ≡ two.taken → WentOut came one.taken three.taken
      nothing is = nothing_more came one.taken two.taken f k v n lines first knows three.taken is

      by_fault : (e : AuditFault) → Told (λ text w. TellsRest k.log f g text × (w ≡ verdict_of g.told.items))
          (record { before = two; after = three }) (Err e) → WentOut came one.taken three.taken
      by_fault (faults.Write bytes) told =
          let h = told.write bytes refl in
          end_part came one.taken two.taken f g k v n lines first knows h.1 h.2.0 h.0 h.2.1 three.taken bytes h.3.1
      by_fault (faults.Trace x) told = nothing (told.unwritten tt)
      by_fault (faults.Evidence x) told = nothing (told.unwritten tt)
      by_fault faults.OutOfMemory told = nothing (told.unwritten tt)
      by_fault faults.Limits told = nothing (told.unwritten tt)
      by_fault faults.Joined told = nothing (told.unwritten tt)
      by_fault faults.Input told = nothing (told.unwritten tt)
