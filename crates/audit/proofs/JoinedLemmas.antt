-- Joined input: its front, and what stands behind it.
use Rattle.std.proofs.Common.{◌≡◌, ◌≢◌, ℕ, ◌+◌, ◌<◌, ◌≤◌, ◌^◌, true, List, [], ◌∷◌, ◌++◌, length, length-append, Option, Some, None, Result, Ok, Err, refl, sym, ap, subst, ◌∙◌, append_assoc, append-nil, arith, inl, inr}
use Rattle.std.specs.Prelude.{IfErr, IfSome}
use Rattle.std.specs.declared.vec.Vec.{Vec}
use Rattle.std.specs.declared.alloc.Global.{Global}
use Rattle.std.proofs.lemmas.List.{append_cancel_left}
use Rattle.json_lines.specs.Joined.{joined_of, ends_left, ComesPast, IsFront, IsTaken, RestValue}
use Rattle.json_lines.specs.Lines.{ComeAtMost}
use Rattle.json_lines.specs.declared.lines.InputFault.{InputFault}
use Rattle.json_lines.specs.declared.lines.InputFault.TheVariants as input
use Rattle.json_lines.specs.declared.lines.TheConstants.{CHUNK}
use Rattle.devices.proofs.Given.{of_input-whole, of_whole-map, next-trans}
use Rattle.trace_lines.specs.Results.{GivesTrace}
use Rattle.trace_lines.specs.Traces.{trace_of}
use Rattle.trace_lines.specs.Values.{TraceValue}
use Rattle.trace_lines.specs.declared.cause.Cause.TheVariants as causes
use Rattle.trace_lines.specs.declared.cause.TraceFault.{TraceFault}
use Rattle.evidence_check.specs.Reading.{evidence_of}
use Rattle.evidence_check.specs.Steps.{StepValue}
use Rattle.evidence_check.specs.declared.judged.Judged.{Judged}
use Rattle.findings.proofs.EachEntryLemmas.{entries_by_bytes, headline_by_bytes}
use Rattle.findings.proofs.WrongReplies.{named_by_bytes}
use Rattle.findings.specs.Findings.{findings_of}
use Rattle.findings.specs.EachEntry.{TellsOfEachEntry}
use Rattle.findings.specs.Headline.{IsRightAndFresh, IsTraceRightAndFresh}
use Rattle.findings.specs.WrongReplies.{NamesOnlyWrongReplies}
use Rattle.audit.specs.Audit.{Audits, BreaksOffAt, BlamesOnly, RefusesTrace, RefusesEvidence, RefusesEvidenceFor}
use Rattle.audit.specs.Devices.{Reader, Reading, Writer, Writing, OfWhole, OfInput, OfBytes, GivesFew, GivesNext, ReaderFailed, ReaderNeverFailed, FailsWriting}
use Rattle.audit.specs.Faults.{TellsTraceFault}
use Rattle.audit.specs.Joined.{OfParts, OfBothParts, HasNoParts, AuditedJoined}
use Rattle.audit.specs.JoinedParts.{IsRead, of_input, SayBoth, PartsRead, FrontRead, BehindRead}
use Rattle.audit.specs.Kinds.{IsOneOf}
use Rattle.audit.specs.Kinds as kind
use Rattle.audit.specs.Parts.{Told, IsReport}
use Rattle.audit.specs.declared.plain.AuditFault.{AuditFault}
use Rattle.audit.specs.declared.plain.AuditFault.TheVariants as faults
use Rattle.audit.specs.declared.plain.Verdict.{Verdict}
use Rattle.audit.proofs.Answering.{told_clean}
use Rattle.audit.proofs.KindLemmas.{one_of-more, never_answered, never_kind, same_fault}
use Rattle.audit.proofs.Readers.{behind_at_rest, devices_of_reading, devices_of_writing}

-- what a reader gave from one moment to another
abbrev between : Reader → Reader → Reading
between old new = record { before = old; after = new }

-- what begins so has too many bytes
pub too_long_to_part : (r : Reading) → OfBytes r (λ came. 2 ^ 30 < length came) → OfInput r HasNoParts
too_long_to_part r h = (h.0, h.1, λ rest ended. inr (omega (arith, length-append h.0 rest, h.2)))

-- the whole has no marker
no_marker : (r : Reading) → OfWhole r (λ came. joined_of came ≡ None) → OfInput r HasNoParts
no_marker r h =
    let given = λ (s : Reader). s.given in
    let ends = λ (s : Reader). s.ends in
    of_input-whole given ends r.before r.after HasNoParts
    (of_whole-map given ends r.before r.after (λ came. joined_of came ≡ None) HasNoParts (λ came none. inl none) h)

-- what is there, of what may be there
with_rest : (o : Option RestValue) (rest : RestValue) (P : RestValue → Type 0) → o ≡ Some rest → IfSome o P → P rest
with_rest None rest P is h = absurd cc
with_rest (Some r) rest P is h = let same : r ≡ rest = cc in subst P same h

-- What came in front and what came behind it, of one reader: before both, between them, and behind both.
module _ (old mid new : Reader) (rest : RestValue) (P : List ℕ → Type 0)
    (front : IsFront old.given mid.given rest P) where
  -- what was passed over stands before what is at hand
  passed_first : mid.given ≡ (old.given ++ front.0) ++ rest.at_hand
  passed_first = front.2 ∙ sym (append_assoc old.given front.0 rest.at_hand)

  -- bytes behind what was passed
  came_with : (bytes : List ℕ) → new.given ≡ (old.given ++ front.0) ++ bytes
      → new.given ≡ old.given ++ (front.0 ++ bytes)
  came_with bytes is = is ∙ append_assoc old.given front.0 bytes

  pub parts_read : (Q : List ℕ → Type 0) (Both : List ℕ → List ℕ → Type 0)
      → mid.ends + ends_left rest.ended ≡ old.ends + 1 → IsRead (between mid new) rest Q
      → ((a b : List ℕ) → P a → Q b → Both a b) → OfBothParts (between old new) Both
  parts_read Q Both first read both =
      let taken = read.0 in
      let then = read.1 in
      let over = read.2 in
      let b : List ℕ = taken.0 in
      let came : new.given ≡ (old.given ++ front.0) ++ b =
      taken.1 (old.given ++ front.0) passed_first
      ∙ ap (λ (l : List ℕ). (old.given ++ front.0) ++ l) (append-nil b) in
      let nothing : rest.ended ≡ true → b ≡ [] =
      λ e. append_cancel_left (old.given ++ front.0) b rest.at_hand (sym came ∙ over e ∙ passed_first)
      ∙ front.4 e in (
        omega (arith, first, then),
        (
          front.0 ++ b,
          came_with b came,
          (
            front.1,
            b,
            front.5 b nothing,
            omega (arith, length-append front.0 b, front.3, taken.2.0),
            both front.1 b front.6 taken.2.1,
          ),
        ),
      )

  pub long_behind : ComesPast rest.room mid.given new.given rest.at_hand → OfInput (between old new) HasNoParts
  long_behind past =
      let more = past (old.given ++ front.0) passed_first in
      too_long_to_part (between old new)
      (front.0 ++ more.0, came_with more.0 more.1, omega (arith, length-append front.0 more.0, front.3, more.2))

  pub most_behind : ComeAtMost (rest.room + CHUNK) mid.given new.given rest.at_hand → GivesFew (between old new)
  most_behind most =
      let more = most (old.given ++ front.0) passed_first in
      (front.0 ++ more.0, came_with more.0 more.1, omega (arith, length-append front.0 more.0, front.3, more.2))

-- ---- faults of the input as a whole

blames_input : (fault : InputFault) (failed : Type 0) → (fault ≡ input.Read → failed)
    → BlamesOnly failed ⊥ ⊥ ⊥ (of_input fault)
blames_input input.Read failed h = h refl
blames_input input.TooLong failed h = tt
blames_input input.OutOfMemory failed h = tt

long_input : (fault : InputFault) → of_input fault ≡ faults.Joined → fault ≡ input.TooLong
long_input input.Read is = cc
long_input input.TooLong is = refl
long_input input.OutOfMemory is = cc

kind_of_input : (fault : InputFault) → IsOneOf (kind.memory ∷ kind.joined ∷ kind.input ∷ []) (of_input fault)
kind_of_input input.Read = (refl, tt)
kind_of_input input.TooLong = (refl, tt)
kind_of_input input.OutOfMemory = (refl, tt)

-- a reader that failed more often than before did so since
blames_later : (e : AuditFault) (failed later out : Type 0) → (failed → later) → BlamesOnly failed ⊥ ⊥ ⊥ e
    → BlamesOnly later ⊥ ⊥ out e
blames_later (faults.Trace f) failed later out more h = h
blames_later (faults.Evidence f) failed later out more h = h
blames_later (faults.Write n) failed later out more h = absurd h
blames_later faults.Input failed later out more h = more h
blames_later _ failed later out more h = tt

-- ---- the front

-- reading the input stopped, in front of the marker or behind it
pub front_stopped : (r : Reading) (fault : InputFault) (e : AuditFault) → e ≡ of_input fault
    → (fault ≡ input.TooLong → OfInput r HasNoParts) → GivesFew r → GivesNext r → (fault ≡ input.Read → ReaderFailed r)
    → (fault ≢ input.Read → ReaderNeverFailed r) → FrontRead r (Err e)
front_stopped r fault e is long most known failed kept =
    subst (λ (x : AuditFault). FrontRead r (Err x)) (sym is)
    (record {
      given = tt;
      ended = tt;
      trace_refused =
          λ f same. never_answered (kind.memory ∷ kind.joined ∷ kind.input ∷ []) (of_input fault) (faults.Trace f) refl
          (kind_of_input fault) same;
      joined = λ same. long (long_input fault (cc (same)));
      most = most;
      known = known;
      devices = blames_input fault _ failed;
      kept = λ not. kept (λ read. not (ap (λ (x : InputFault). Err (of_input x)) read));
      kinds =
          one_of-more (kind.memory ∷ kind.joined ∷ kind.input ∷ [])
          (kind.trace ∷ kind.memory ∷ kind.joined ∷ kind.input ∷ []) refl (of_input fault) (kind_of_input fault);
    })

-- there was no marker
pub front_unmarked : (r : Reading) → OfWhole r (λ came. joined_of came ≡ None) → GivesFew r → GivesNext r
    → ReaderNeverFailed r → FrontRead r (Err faults.Joined)
front_unmarked r none most known kept =
    record {
      given = tt;
      ended = tt;
      trace_refused = λ f is. absurd (cc (is));
      joined = λ is. no_marker r none;
      most = most;
      known = known;
      devices = tt;
      kept = λ not. kept;
      kinds = (refl, tt);
    }

-- The front was read up to the marker, and this is left behind it.
module _ (old mid : Reader) (read : Result TraceValue TraceFault) (left : Option RestValue) (rest : RestValue)
    (some : left ≡ Some rest)
    (front : IfSome left (λ r. IsFront old.given mid.given r (λ a. GivesTrace read (trace_of true a))))
    (ended : IfSome left (λ r. mid.ends + ends_left r.ended ≡ old.ends + 1))
    (known : GivesNext (between old mid)) (kept : ReaderNeverFailed (between old mid)) where
  front_by : (answer : Result TraceValue TraceFault) → read ≡ answer
      → IsFront old.given mid.given rest (λ a. GivesTrace answer (trace_of true a))
  front_by answer is =
      subst
      (λ (r : Result TraceValue TraceFault). IsFront old.given mid.given rest (λ a. GivesTrace r (trace_of true a))) is
      (with_rest left rest (λ r. IsFront old.given mid.given r (λ a. GivesTrace read (trace_of true a))) some front)

  ended_by : mid.ends + ends_left rest.ended ≡ old.ends + 1
  ended_by = with_rest left rest (λ r. mid.ends + ends_left r.ended ≡ old.ends + 1) some ended

  pub front_whole : (t : TraceValue) → read ≡ Ok t → GivesFew (between old mid)
      → FrontRead (between old mid) (Ok (t, rest))
  front_whole t is most =
      record {
        given = front_by (Ok t) is;
        ended = ended_by;
        trace_refused = λ f is. absurd (cc (is));
        joined = λ is. absurd (cc (is));
        most = most;
        known = known;
        devices = tt;
        kept = λ not. kept;
        kinds = tt;
      }

  -- the trace is refused, and what is left was passed over, up to a fault or to the reader's end
  module _ (fault : TraceFault) (refused : read ≡ Err fault) (unread : IfErr read (λ e. e.cause ≢ causes.Read))
      (new : Reader) (most : ComeAtMost (rest.room + CHUNK) mid.given new.given rest.at_hand)
      (next : GivesNext (between mid new)) where
    known_both : GivesNext (between old new)
    known_both =
        next-trans (λ (s : Reader). s.given) (λ (s : Reader). s.ends) (λ (s : Reader). s.left) old mid new known next

    pub front_refused : (e : AuditFault)
        → IsTaken mid.given new.given rest.at_hand (λ came. length came ≤ rest.room)
        → new.ends ≡ mid.ends + ends_left rest.ended → (rest.ended ≡ true → new.given ≡ mid.given)
        → ReaderNeverFailed (between mid new) → TellsTraceFault fault e → FrontRead (between old new) (Err e)
    front_refused e taken ends over still told =
        let by : fault.cause ≢ causes.Read =
        subst (λ (r : Result TraceValue TraceFault). IfErr r (λ f. f.cause ≢ causes.Read)) refused unread in
        let all =
        parts_read old mid new rest (λ a. GivesTrace (Err fault) (trace_of true a)) (front_by (Err fault) refused)
        (λ b. Unit {0}) (λ a b. RefusesTrace a fault) ended_by
        ((taken.0, taken.1, (taken.2, tt)), ends, over) (λ a b says any. says) in
        record {
          given = tt;
          ended = tt;
          trace_refused = λ f is.
              subst (λ (x : TraceFault). OfBothParts (between old new) (λ a b. RefusesTrace a x))
              (sym (told.same f (cc (is)))) all;
          joined = λ is. never_answered (kind.trace ∷ kind.memory ∷ []) e faults.Joined refl told.kinds is;
          most =
              most_behind old mid new rest (λ a. GivesTrace (Err fault) (trace_of true a))
              (front_by (Err fault) refused) most;
          known = known_both;
          devices =
              devices_of_reading e _ ⊥ ⊥ ⊥
              (one_of-more (kind.trace ∷ kind.memory ∷ []) (kind.trace ∷ kind.evidence ∷ kind.memory ∷ []) refl e
              told.kinds)
              (λ f is read. by (subst (λ (x : TraceFault). x.cause ≡ causes.Read) (told.same f is) read))
              (λ f is read. never_kind (kind.trace ∷ kind.memory ∷ []) e (faults.Evidence f) refl told.kinds is);
          kept = λ not. still ∙ kept;
          kinds =
              one_of-more (kind.trace ∷ kind.memory ∷ [])
              (kind.trace ∷ kind.memory ∷ kind.joined ∷ kind.input ∷ []) refl e told.kinds;
        }

    pub front_passed : (stop : InputFault) (e : AuditFault) → e ≡ of_input stop
        → (stop ≡ input.TooLong → ComesPast rest.room mid.given new.given rest.at_hand)
        → (stop ≡ input.Read → ReaderFailed (between mid new))
        → (stop ≢ input.Read → ReaderNeverFailed (between mid new)) → FrontRead (between old new) (Err e)
    front_passed stop e is long failed still =
        let by = front_by (Err fault) refused in
        front_stopped (between old new) stop e is
        (λ past. long_behind old mid new rest (λ a. GivesTrace (Err fault) (trace_of true a)) by (long past))
        (most_behind old mid new rest (λ a. GivesTrace (Err fault) (trace_of true a)) by most) known_both
        (λ read. failed read ∙ ap (λ n. n + 1) kept) (λ other. still other ∙ kept)

-- ---- behind the marker

module _ (t : TraceValue) (rest : RestValue) (r : Reading)
    (most : ComeAtMost (rest.room + CHUNK) r.before.given r.after.given rest.at_hand) (known : GivesNext r) where
  pub behind_stopped : (fault : InputFault) (e : AuditFault) → e ≡ of_input fault
      → (fault ≡ input.TooLong → ComesPast rest.room r.before.given r.after.given rest.at_hand)
      → (fault ≡ input.Read → ReaderFailed r) → (fault ≢ input.Read → ReaderNeverFailed r)
      → BehindRead t rest r (Err e)
  behind_stopped fault e is long failed kept =
      subst (λ (x : AuditFault). BehindRead t rest r (Err x)) (sym is)
      (record {
        given = tt;
        evidence_refused =
            λ f same. never_answered (kind.memory ∷ kind.joined ∷ kind.input ∷ []) (of_input fault) (faults.Evidence f)
            refl (kind_of_input fault) same;
        joined = λ same. long (long_input fault (cc (same)));
        most = most;
        known = known;
        devices = blames_input fault _ failed;
        kept = λ not. kept (λ read. not (ap (λ (x : InputFault). Err (of_input x)) read));
        kinds =
            one_of-more (kind.memory ∷ kind.joined ∷ kind.input ∷ [])
            (kind.evidence ∷ kind.memory ∷ kind.joined ∷ kind.input ∷ []) refl (of_input fault)
            (kind_of_input fault);
      })

-- ---- both parts

pub parts_without_front : (r : Reading) (e : AuditFault) → FrontRead r (Err e) → PartsRead r (Err e)
parts_without_front r e read =
    record {
      given = tt;
      trace_refused = λ f is. read.trace_refused f (same_fault e (faults.Trace f) is);
      evidence_refused =
          λ f is. never_answered (kind.trace ∷ kind.memory ∷ kind.joined ∷ kind.input ∷ []) e (faults.Evidence f) refl
          read.kinds is;
      joined = λ is. read.joined (same_fault e faults.Joined is);
      most = read.most;
      known = read.known;
      devices = read.devices;
      kept = λ not. read.kept (λ is. not (same_fault e faults.Input is));
      kinds =
          one_of-more (kind.trace ∷ kind.memory ∷ kind.joined ∷ kind.input ∷ [])
          (kind.trace ∷ kind.evidence ∷ kind.memory ∷ kind.joined ∷ kind.input ∷ []) refl e read.kinds;
    }

module _ (old mid new : Reader) (t : TraceValue) (rest : RestValue)
    (front : FrontRead (between old mid) (Ok (t, rest))) where
  known_of_both : GivesNext (between mid new) → GivesNext (between old new)
  known_of_both then =
      next-trans (λ (s : Reader). s.given) (λ (s : Reader). s.ends) (λ (s : Reader). s.left) old mid new front.known
      then

  pub parts_without_evidence : (e : AuditFault) → BehindRead t rest (between mid new) (Err e)
      → PartsRead (between old new) (Err e)
  parts_without_evidence e read =
      let kept : mid.failures ≡ old.failures = front.kept (λ is. absurd (cc (is))) in
      record {
        given = tt;
        trace_refused =
            λ f is. never_answered (kind.evidence ∷ kind.memory ∷ kind.joined ∷ kind.input ∷ []) e (faults.Trace f) refl
            read.kinds is;
        evidence_refused = λ f is.
            parts_read old mid new rest (λ a. trace_of true a ≡ Ok t) front.given (λ b. RefusesEvidenceFor t b f)
            (λ a b. RefusesEvidence a b f) front.ended (read.evidence_refused f (same_fault e (faults.Evidence f) is))
            (λ a b says by. (t, says, by));
        joined = λ is.
            long_behind old mid new rest (λ a. trace_of true a ≡ Ok t) front.given
            (read.joined (same_fault e faults.Joined is));
        most = most_behind old mid new rest (λ a. trace_of true a ≡ Ok t) front.given read.most;
        known = known_of_both read.known;
        devices = blames_later e _ _ ⊥ (λ risen. risen ∙ ap (λ n. n + 1) kept) read.devices;
        kept = λ not. read.kept (λ is. not (same_fault e faults.Input is)) ∙ kept;
        kinds =
            one_of-more (kind.evidence ∷ kind.memory ∷ kind.joined ∷ kind.input ∷ [])
            (kind.trace ∷ kind.evidence ∷ kind.memory ∷ kind.joined ∷ kind.input ∷ []) refl e read.kinds;
      }

  pub parts_whole : (v : Vec Judged Global) → BehindRead t rest (between mid new) (Ok v)
      → PartsRead (between old new) (Ok (t, v))
  parts_whole v read =
      let taken = read.given.0 in
      let given : List (Option (List StepValue)) = taken.2.1.0 in
      record {
        given = (
          given,
          taken.2.1.2,
          parts_read old mid new rest (λ a. trace_of true a ≡ Ok t) front.given
              (λ b. evidence_of t.entries true b ≡ Ok given) (SayBoth t given) front.ended
              ((taken.0, taken.1, (taken.2.0, taken.2.1.1)), read.given.1, read.given.2) (λ a b says by. (says, by)),
        );
        trace_refused = λ f is. absurd (cc (is));
        evidence_refused = λ f is. absurd (cc (is));
        joined = λ is. absurd (cc (is));
        most = most_behind old mid new rest (λ a. trace_of true a ≡ Ok t) front.given read.most;
        known = known_of_both read.known;
        devices = tt;
        kept = λ not. read.kept (λ is. absurd (cc (is))) ∙ front.kept (λ is. absurd (cc (is)));
        kinds = tt;
      }

-- ---- the audit

-- the input was refused, and nothing was written
pub joined_unread : (r : Reading) (w : Writer) (e : AuditFault) → PartsRead r (Err e)
    → AuditedJoined r (record { before = w; after = w }) (Err e)
joined_unread r w e read =
    record {
      audits = tt;
      flushed = tt;
      headline = λ is. absurd (cc (is));
      wrong_replies = tt;
      entries = tt;
      trace_refused = λ f is. read.trace_refused f (same_fault e (faults.Trace f) is);
      evidence_refused = λ f is. read.evidence_refused f (same_fault e (faults.Evidence f) is);
      joined = λ is. read.joined (same_fault e faults.Joined is);
      write =
          λ n is. never_answered (kind.trace ∷ kind.evidence ∷ kind.memory ∷ kind.joined ∷ kind.input ∷ []) e
          (faults.Write n) refl read.kinds is;
      unwritten = λ is. refl;
      most = read.most;
      known = read.known;
      held = behind_at_rest w;
      devices = blames_later e _ _ _ (λ failed. failed) read.devices;
      kept = λ not. read.kept (λ is. not (same_fault e faults.Input is));
      out_kept = tt;
      out_unfailed = λ is. (refl, refl);
      kinds =
          one_of-more (kind.trace ∷ kind.evidence ∷ kind.memory ∷ kind.joined ∷ kind.input ∷ [])
          (kind.trace ∷ kind.evidence ∷ kind.write ∷ kind.memory ∷ kind.joined ∷ kind.input ∷ []) refl e read.kinds;
    }

module _ (r : Reading) (out : Writing) (t : TraceValue) (v : Vec Judged Global) (read : PartsRead r (Ok (t, v)))
    (law : (given : List (Option (List StepValue))) → findings_of t given ≡ [] → IsRightAndFresh t) where
  -- what holds of bytes that say both
  of_both : (P : List ℕ → List ℕ → Type 0)
      → ((a b : List ℕ) → trace_of true a ≡ Ok t → evidence_of t.entries true b ≡ Ok read.given.0 → P a b)
      → OfBothParts r P
  of_both P f =
      of_whole-map (λ (s : Reader). s.given) (λ (s : Reader). s.ends) r.before r.after
      (OfParts (SayBoth t read.given.0)) (OfParts P) (λ came h. (h.0, h.1, h.2, h.3, f h.0 h.1 h.4.0 h.4.1))
      read.given.2

  -- what was found was told
  pub joined_told : (answer : Result Verdict AuditFault) → Told (IsReport t read.given.0) out answer
      → AuditedJoined r out answer
  joined_told (Ok verdict) told =
      let given = read.given.0 in
      record {
        audits = of_both (λ a b. Audits a b out.before.taken out.after.taken verdict) (λ a b is by. (
          t,
          given,
          is,
          by,
          told.text.2 ∙ ap (λ (l : List ℕ). out.before.taken ++ l) told.text.1.0,
          told.text.1.1,
        ));
        flushed = told.flushed;
        headline = λ clean. of_both (λ a b. IsTraceRightAndFresh a)
            (λ a b is by. headline_by_bytes a t is (law given (told_clean t given out (Ok verdict) told clean)));
        wrong_replies =
            of_both NamesOnlyWrongReplies (λ a b is by. (t, given, is, by, named_by_bytes a t given is));
        entries = of_both TellsOfEachEntry (λ a b is by. (t, given, is, by, entries_by_bytes a t given is));
        trace_refused = λ f is. absurd (cc (is));
        evidence_refused = λ f is. absurd (cc (is));
        joined = λ is. absurd (cc (is));
        write = λ n is. absurd (cc (is));
        unwritten = tt;
        most = read.most;
        known = read.known;
        held = told.held;
        devices = tt;
        kept = λ not. read.kept (λ is. absurd (cc (is)));
        out_kept = told.kept;
        out_unfailed = tt;
        kinds = tt;
      }
  joined_told (Err e) told =
      record {
        audits = tt;
        flushed = tt;
        headline = λ is. absurd (cc (is));
        wrong_replies = tt;
        entries = tt;
        trace_refused = λ f is. never_answered (kind.write ∷ kind.memory ∷ []) e (faults.Trace f) refl told.kinds is;
        evidence_refused =
            λ f is. never_answered (kind.write ∷ kind.memory ∷ []) e (faults.Evidence f) refl told.kinds is;
        joined = λ is. never_answered (kind.write ∷ kind.memory ∷ []) e faults.Joined refl told.kinds is;
        write = λ n is.
            let h = told.write n is in
            of_both (λ a b. BreaksOffAt a b out n)
            (λ a b says by.
            (t, read.given.0, says, by, subst (λ (l : List ℕ). FailsWriting out n l) h.2.0 h.3));
        unwritten = told.unwritten;
        most = read.most;
        known = read.known;
        held = told.held;
        devices = devices_of_writing {V = Verdict} (Err e) _ ⊥ ⊥ _ told.kinds told.failed;
        kept = λ not. read.kept (λ is. absurd (cc (is)));
        out_kept = tt;
        out_unfailed = told.unfailed;
        kinds =
            one_of-more (kind.write ∷ kind.memory ∷ [])
            (kind.trace ∷ kind.evidence ∷ kind.write ∷ kind.memory ∷ kind.joined ∷ kind.input ∷ []) refl e told.kinds;
      }
