-- What a call answers, by what its parts did.
use Rattle.std.proofs.Common.{◌≡◌, ◌≢◌, ◌⊎◌, inl, inr, ℕ, ◌+◌, true, false, List, [], ◌∷◌, ◌++◌, Option, Result, Ok, Err, refl, sym, ap, subst, ◌∙◌, length}
use Rattle.std.specs.Result.{IsErrAnd}
use Rattle.std.specs.declared.vec.Vec.{Vec}
use Rattle.std.specs.declared.alloc.Global.{Global}
use Rattle.trace_lines.specs.Values.{TraceValue}
use Rattle.trace_lines.specs.Traces.{trace_of}
use Rattle.devices.proofs.Given.{of_ended}
use Rattle.evidence_check.specs.Judging.{AreJudged, GivesJudged}
use Rattle.evidence_check.specs.Reading as reading
use Rattle.evidence_check.specs.Reading.{evidence_of}
use Rattle.evidence_check.specs.Steps.{StepValue}
use Rattle.evidence_check.specs.declared.cause.EvidenceCause.TheVariants as evidence_causes
use Rattle.evidence_check.specs.declared.cause.EvidenceFault.{EvidenceFault}
use Rattle.evidence_check.specs.declared.judged.Judged.{Judged}
use Rattle.findings.specs.Findings.{findings_of}
use Rattle.findings.specs.EachEntry.{TellsOfEachEntry}
use Rattle.findings.specs.Headline.{IsRightAndFresh, IsTraceRightAndFresh}
use Rattle.findings.specs.Report.{report_text}
use Rattle.findings.specs.WrongReplies.{NamesOnlyWrongReplies}
use Rattle.findings.specs.declared.finding.Finding.{Finding}
use Rattle.findings.proofs.EachEntryLemmas.{entries_by_bytes, headline_by_bytes}
use Rattle.findings.proofs.WrongReplies.{named_by_bytes}
use Rattle.audit.specs.Answers.{TellsOfTrace, Audited}
use Rattle.audit.specs.Parts.{TraceRead, EvidenceRead, Told, IsReport, AreFound}
use Rattle.audit.specs.Audit.{Audits, BreaksOffAt, RefusesEvidenceFor, IsOfBytes, verdict_of}
use Rattle.audit.specs.Devices.{Reader, Reading, Writer, Writing, OfWhole, OfInput, OfBoth, OfBytes, GivesFew, GivesNext, reads, ReaderFailed, ReaderNeverFailed, WriterNeverFailed, FailsWriting, StandsBehind}
use Rattle.audit.specs.Faults.{TellsEvidenceFault}
use Rattle.audit.specs.Kinds as kind
use Rattle.audit.specs.declared.plain.Verdict.{Verdict}
use Rattle.audit.specs.declared.plain.Verdict.TheVariants.{Clean}
use Rattle.audit.specs.declared.plain.AuditFault.{AuditFault}
use Rattle.audit.specs.declared.plain.AuditFault.TheVariants as faults
use Rattle.audit.proofs.KindLemmas.{one_of-more, never_answered, never_kind, same_fault}
use Rattle.audit.proofs.Readers.{of_whole-map, few_at_rest, next_at_rest, behind_at_rest, refused_evidence, cut_evidence, on_both, devices_of_reading, devices_of_writing, unwritten_without_device, answered_clean}

-- ---- what is told

pub told_no_memory : {V : Type 0} (Says : List ℕ → V → Type 0) (w : Writer)
    → Told Says (record { before = w; after = w }) (Err faults.OutOfMemory)
told_no_memory Says w =
    record {
      text = tt;
      flushed = tt;
      write = λ n is. absurd (cc (is));
      failed = λ is. absurd is;
      kept = tt;
      kinds = (refl, tt);
      unwritten = λ is. refl;
      unfailed = λ is. (refl, refl);
      held = behind_at_rest w;
    }

pub told-map : {V : Type 0} (P Q : List ℕ → V → Type 0) (out : Writing) (r : Result V AuditFault)
    → ((text : List ℕ) (v : V) → P text v → Q text v) → Told P out r → Told Q out r
told-map P Q out (Ok v) f told =
    record {
      text = (told.text.0, f told.text.0 v told.text.1, told.text.2);
      flushed = told.flushed;
      write = λ n is. absurd (cc (is));
      failed = tt;
      kept = told.kept;
      kinds = tt;
      unwritten = tt;
      unfailed = tt;
      held = told.held;
    }
told-map P Q out (Err e) f told =
    record {
      text = tt;
      flushed = tt;
      write = λ n is. let h = told.write n is in (h.0, h.1, f h.1 h.0 h.2, h.3);
      failed = told.failed;
      kept = tt;
      kinds = told.kinds;
      unwritten = told.unwritten;
      unfailed = told.unfailed;
      held = told.held;
    }

-- the report of findings is that on a trace by the evidence that has them
pub as_report : (t : TraceValue) (given : List (Option (List StepValue))) (found : List Finding) (n : ℕ)
    (out : Writing) (r : Result Verdict AuditFault) → found ≡ findings_of t given → n ≡ length t.entries
    → Told (λ text v. (text ≡ report_text found n) × (v ≡ verdict_of found)) out r → Told (IsReport t given) out r
as_report t given found n out r same count told =
    told-map (λ text v. (text ≡ report_text found n) × (v ≡ verdict_of found)) (IsReport t given) out r
    (λ text v h. (
      h.0 ∙ ap (λ (fs : List Finding). report_text fs n) same ∙ ap (report_text (findings_of t given)) count,
      h.1 ∙ ap verdict_of same,
    )) told

-- a clean verdict is told where nothing is found
pub told_clean : (t : TraceValue) (given : List (Option (List StepValue))) (out : Writing)
    (r : Result Verdict AuditFault) → Told (IsReport t given) out r → r ≡ Ok Clean → findings_of t given ≡ []
told_clean t given out (Ok v) told clean = answered_clean {E = AuditFault} v (findings_of t given) told.text.1.1 clean
told_clean t given out (Err e) told clean = absurd (cc (clean))

-- ---- what was read

module _ (t : TraceValue) (r : Reading) where
  -- reading evidence stopped at this fault, which is told so
  pub evidence_stopped : {V : Type 0} (Says : List (Option (List StepValue)) → V → Type 0) (fault : EvidenceFault)
      (e : AuditFault) → OfInput r (λ b. RefusesEvidenceFor t b fault)
      → (fault.cause ≡ evidence_causes.Read → OfBytes r (λ b. evidence_of t.entries false b ≡ Err fault)) → GivesFew r
      → GivesNext r
      → (fault.cause ≡ evidence_causes.Read → ReaderFailed r)
      → (fault.cause ≢ evidence_causes.Read → ReaderNeverFailed r)
      → TellsEvidenceFault fault e → EvidenceRead {V = V} Says t r (Err e)
  evidence_stopped {V} Says fault e refused cut most known failed kept told =
      let same =
      λ (f : EvidenceFault) (is : ◌≡◌ {A = Result V AuditFault} (Err e) (Err (faults.Evidence f))). told.same f
      (cc (is)) in
      record {
        given = tt;
        refused =
            λ f is. subst (λ (x : EvidenceFault). OfInput r (λ b. RefusesEvidenceFor t b x)) (sym (same f is)) refused;
        cut = λ f is read.
            subst (λ (x : EvidenceFault). OfBytes r (λ b. evidence_of t.entries false b ≡ Err x)) (sym (same f is))
            (cut (subst (λ (x : EvidenceFault). x.cause ≡ evidence_causes.Read) (same f is) read));
        most = most;
        known = known;
        failed = λ f is read. failed (subst (λ (x : EvidenceFault). x.cause ≡ evidence_causes.Read) (same f is) read);
        kept = tt;
        unfailed = λ none. kept (told.device none);
        kinds = told.kinds;
      }

  -- reading evidence came to the reader's end
  pub evidence_whole : {V : Type 0} (Says : List (Option (List StepValue)) → V → Type 0) (v : V)
      (given : List (Option (List StepValue))) → Says given v
      → OfWhole r (λ b. evidence_of t.entries true b ≡ Ok given)
      → GivesFew r → GivesNext r → ReaderNeverFailed r → EvidenceRead Says t r (Ok v)
  evidence_whole Says v given says whole most known kept =
      record {
        given = (given, says, whole);
        refused = λ f is. absurd (cc (is));
        cut = λ f is. absurd (cc (is));
        most = most;
        known = known;
        failed = λ f is. absurd (cc (is));
        kept = kept;
        unfailed = tt;
        kinds = tt;
      }

-- what judging evidence as it is read answers
module _ {R : Type 0} (given : R → List ℕ) (ends failures : R → ℕ) (remaining : R → Option (List ℕ)) (old new : R)
    (t : TraceValue) where
  pub judged_whole : (v : Vec Judged Global)
      → reading.EvidenceRead (GivesJudged t) t.entries given ends failures remaining old new (Ok v)
      → EvidenceRead (λ given v. AreJudged t given v.items) t (reads given ends failures remaining old new) (Ok v)
  judged_whole v h =
      let all =
      of_ended given ends old new (λ b. GivesJudged t (Ok v) (evidence_of t.entries true b)) h.ended h.exact in
      evidence_whole t (reads given ends failures remaining old new) (λ given v. AreJudged t given v.items) v all.1.2.0
      all.1.2.2 (all.0, (all.1.0, all.1.1, all.1.2.1)) h.most h.known h.kept

  pub judged_stopped : (fault : EvidenceFault) (answer : Result (Vec Judged Global) AuditFault)
      → IsErrAnd answer (TellsEvidenceFault fault)
      → reading.EvidenceRead (GivesJudged t) t.entries given ends failures remaining old new (Err fault)
      → EvidenceRead (λ given v. AreJudged t given v.items) t (reads given ends failures remaining old new) answer
  judged_stopped fault (Ok v) told h = absurd told
  judged_stopped fault (Err e) told h =
      evidence_stopped t (reads given ends failures remaining old new) _ fault e h.exact h.failed h.most h.known
      h.counted h.unfailed told

-- ---- calls that read a trace alone

pub trace_not_read : {V : Type 0} (Tells : List ℕ → List ℕ → List ℕ → V → Type 0)
    (Breaks : List ℕ → Writing → ℕ → Type 0) (trace : Reading) (w : Writer) (e : AuditFault)
    → TraceRead trace (Err e) → TellsOfTrace Tells Breaks trace (record { before = w; after = w }) (Err e)
trace_not_read {V} Tells Breaks trace w e read =
    record {
      told = tt;
      flushed = tt;
      trace_refused =
          λ f is. read.refused f (same_fault e (faults.Trace f) is);
      trace_cut = λ f is. read.cut f (same_fault e (faults.Trace f) is);
      write =
          λ n is. never_answered (kind.trace ∷ kind.memory ∷ []) e (faults.Write n) refl read.kinds is;
      unwritten = λ is. refl;
      most = read.most;
      known = read.known;
      held = behind_at_rest w;
      devices =
          devices_of_reading e ⊥ _ ⊥ _
          (one_of-more (kind.trace ∷ kind.memory ∷ []) (kind.trace ∷ kind.evidence ∷ kind.memory ∷ []) refl e
          read.kinds)
          (λ f is. read.failed f (ap (λ (x : AuditFault). Err x) is))
          (λ f is read_fails. never_kind (kind.trace ∷ kind.memory ∷ []) e (faults.Evidence f) refl read.kinds is);
      kept = tt;
      unfailed = λ none. (read.unfailed none, (refl, refl));
    }

-- it was told whole
tells_whole : {V : Type 0} (Tells : List ℕ → List ℕ → List ℕ → V → Type 0)
    (Breaks : List ℕ → Writing → ℕ → Type 0) (trace : Reading) (out : Writing) (v : V)
    → OfWhole trace (λ a. Tells a out.before.taken out.after.taken v) → out.after.flushes ≡ out.before.flushes + 1
    → GivesFew trace → GivesNext trace → StandsBehind out → ReaderNeverFailed trace × WriterNeverFailed out
    → TellsOfTrace Tells Breaks trace out (Ok v)
tells_whole Tells Breaks trace out v told flushed most known held kept =
    record {
      told = told;
      flushed = flushed;
      trace_refused = λ f is. absurd (cc (is));
      trace_cut = λ f is. absurd (cc (is));
      write = λ n is. absurd (cc (is));
      unwritten = tt;
      most = most;
      known = known;
      held = held;
      devices = tt;
      kept = kept;
      unfailed = tt;
    }

pub tells_of : {V : Type 0} (Tells : List ℕ → List ℕ → List ℕ → V → Type 0) (Breaks : List ℕ → Writing → ℕ → Type 0)
    (Says : List ℕ → V → Type 0) (trace : Reading) (out : Writing)
    (t : TraceValue) (r : Result V AuditFault) → TraceRead trace (Ok t) → Told Says out r
    → ((a text old new : List ℕ) (v : V) → trace_of true a ≡ Ok t → Says text v → new ≡ old ++ text → Tells a old new v)
    → ((a text : List ℕ) (v : V) (n : ℕ) → trace_of true a ≡ Ok t → Says text v → FailsWriting out n text
    → Breaks a out n)
    → TellsOfTrace Tells Breaks trace out r
tells_of Tells Breaks Says trace out t (Ok v) read told tells breaks =
    tells_whole Tells Breaks trace out v
    (of_whole-map trace (λ a. trace_of true a ≡ Ok t) (λ a. Tells a out.before.taken out.after.taken v)
    (λ a is. tells a told.text.0 out.before.taken out.after.taken v is told.text.1 told.text.2) read.given)
    told.flushed read.most read.known told.held (read.kept, told.kept)
tells_of {V} Tells Breaks Says trace out t (Err e) read told tells breaks =
    record {
      told = tt;
      flushed = tt;
      trace_refused =
          λ f is. never_answered (kind.write ∷ kind.memory ∷ []) e (faults.Trace f) refl told.kinds is;
      trace_cut =
          λ f is. never_answered (kind.write ∷ kind.memory ∷ []) e (faults.Trace f) refl told.kinds is;
      write = λ n is.
          let h = told.write n is in
          of_whole-map trace (λ a. trace_of true a ≡ Ok t) (λ a. Breaks a out n)
          (λ a says. breaks a h.1 h.0 n says h.2 h.3) read.given;
      unwritten = told.unwritten;
      most = read.most;
      known = read.known;
      held = told.held;
      devices = devices_of_writing {V = V} (Err e) ⊥ _ ⊥ _ told.kinds told.failed;
      kept = tt;
      unfailed = λ none. (read.kept, told.unfailed (unwritten_without_device e none));
    }

-- the same call with another answer
pub tells-map : {V X : Type 0} (Tells : List ℕ → List ℕ → List ℕ → V → Type 0)
    (Also : List ℕ → List ℕ → List ℕ → X → Type 0) (Breaks : List ℕ → Writing → ℕ → Type 0)
    (trace : Reading) (out : Writing) (v : V) (x : X) → ((a old new : List ℕ) → Tells a old new v → Also a old new x)
    → TellsOfTrace Tells Breaks trace out (Ok v) → TellsOfTrace Also Breaks trace out (Ok x)
tells-map Tells Also Breaks trace out v x f h =
    tells_whole Also Breaks trace out x
    (of_whole-map trace (λ a. Tells a out.before.taken out.after.taken v)
    (λ a. Also a out.before.taken out.after.taken x) (λ a. f a out.before.taken out.after.taken) h.told)
    h.flushed h.most h.known h.held h.kept

-- ---- audits

-- the trace was refused, and nothing else touched
pub audited_no_trace : (trace : Reading) (b : Reader) (w : Writer) (e : AuditFault) → TraceRead trace (Err e)
    → Audited trace (record { before = b; after = b }) (record { before = w; after = w }) (Err e)
audited_no_trace trace b w e read =
    record {
      audits = tt;
      flushed = tt;
      headline = λ is. absurd (cc (is));
      wrong_replies = tt;
      entries = tt;
      trace_refused = λ f is. read.refused f (same_fault e (faults.Trace f) is);
      trace_cut = λ f is. read.cut f (same_fault e (faults.Trace f) is);
      evidence_refused =
          λ f is. never_answered (kind.trace ∷ kind.memory ∷ []) e (faults.Evidence f) refl read.kinds is;
      evidence_cut =
          λ f is. never_answered (kind.trace ∷ kind.memory ∷ []) e (faults.Evidence f) refl read.kinds is;
      write =
          λ n is. never_answered (kind.trace ∷ kind.memory ∷ []) e (faults.Write n) refl read.kinds is;
      unwritten = λ is. refl;
      most = (read.most, few_at_rest b);
      known = (read.known, next_at_rest b);
      held = behind_at_rest w;
      devices =
          devices_of_reading e ⊥ _ _ _
          (one_of-more (kind.trace ∷ kind.memory ∷ []) (kind.trace ∷ kind.evidence ∷ kind.memory ∷ []) refl e
          read.kinds)
          (λ f is. read.failed f (ap (λ (x : AuditFault). Err x) is))
          (λ f is read_fails. never_kind (kind.trace ∷ kind.memory ∷ []) e (faults.Evidence f) refl read.kinds is);
      kept = tt;
      unfailed = λ none. (read.unfailed none, refl, (refl, refl));
    }

-- the evidence was refused, and nothing was written
pub audited_no_evidence : {V : Type 0} (Says : List (Option (List StepValue)) → V → Type 0) (trace evidence : Reading)
    (w : Writer) (t : TraceValue) (e : AuditFault) → TraceRead trace (Ok t)
    → EvidenceRead Says t evidence (Err e) → Audited trace evidence (record { before = w; after = w }) (Err e)
audited_no_evidence Says trace evidence w t e read given =
    record {
      audits = tt;
      flushed = tt;
      headline = λ is. absurd (cc (is));
      wrong_replies = tt;
      entries = tt;
      trace_refused =
          λ f is. never_answered (kind.evidence ∷ kind.memory ∷ []) e (faults.Trace f) refl given.kinds is;
      trace_cut =
          λ f is. never_answered (kind.evidence ∷ kind.memory ∷ []) e (faults.Trace f) refl given.kinds is;
      evidence_refused =
          λ f is. refused_evidence trace evidence t read.given f
          (given.refused f (same_fault e (faults.Evidence f) is));
      evidence_cut =
          λ f is cut. cut_evidence trace evidence t read.given f
          (given.cut f (same_fault e (faults.Evidence f) is) cut);
      write =
          λ n is. never_answered (kind.evidence ∷ kind.memory ∷ []) e (faults.Write n) refl given.kinds is;
      unwritten = λ is. refl;
      most = (read.most, given.most);
      known = (read.known, given.known);
      held = behind_at_rest w;
      devices =
          devices_of_reading e ⊥ _ _ _
          (one_of-more (kind.evidence ∷ kind.memory ∷ []) (kind.trace ∷ kind.evidence ∷ kind.memory ∷ []) refl e
          given.kinds)
          (λ f is read_fails. never_kind (kind.evidence ∷ kind.memory ∷ []) e (faults.Trace f) refl given.kinds is)
          (λ f is. given.failed f (ap (λ (x : AuditFault). Err x) is));
      kept = tt;
      unfailed = λ none. (read.kept, given.unfailed none, (refl, refl));
    }

-- what was found was told
pub audited : (trace evidence : Reading) (out : Writing) (t : TraceValue) (found : Vec Finding Global)
    (r : Result Verdict AuditFault) → TraceRead trace (Ok t)
    → (by : EvidenceRead (AreFound t) t evidence (Ok found))
    → ((given : List (Option (List StepValue))) → findings_of t given ≡ [] → IsRightAndFresh t)
    → Told (IsReport t by.given.0) out r → Audited trace evidence out r
audited trace evidence out t found (Ok v) read by law told =
    let given = by.given.0 in
    record {
      audits =
          on_both trace evidence t read.given (λ a b. Audits a b out.before.taken out.after.taken v) given by.given.2
          (λ a b is says. (
            t,
            given,
            is,
            says,
            told.text.2 ∙ ap (λ (l : List ℕ). out.before.taken ++ l) told.text.1.0,
            told.text.1.1,
          ));
      flushed = told.flushed;
      headline = λ clean.
          of_whole-map trace (λ a. trace_of true a ≡ Ok t) IsTraceRightAndFresh
          (λ a is. headline_by_bytes a t is (law given (told_clean t given out (Ok v) told clean))) read.given;
      wrong_replies =
          on_both trace evidence t read.given NamesOnlyWrongReplies given by.given.2
          (λ a b is says. (t, given, is, says, named_by_bytes a t given is));
      entries =
          on_both trace evidence t read.given TellsOfEachEntry given by.given.2
          (λ a b is says. (t, given, is, says, entries_by_bytes a t given is));
      trace_refused = λ f is. absurd (cc (is));
      trace_cut = λ f is. absurd (cc (is));
      evidence_refused = λ f is. absurd (cc (is));
      evidence_cut = λ f is. absurd (cc (is));
      write = λ n is. absurd (cc (is));
      unwritten = tt;
      most = (read.most, by.most);
      known = (read.known, by.known);
      held = told.held;
      devices = tt;
      kept = (read.kept, by.kept, told.kept);
      unfailed = tt;
    }
audited trace evidence out t found (Err e) read by law told =
    let given = by.given.0 in
    record {
      audits = tt;
      flushed = tt;
      headline = λ is. absurd (cc (is));
      wrong_replies = tt;
      entries = tt;
      trace_refused =
          λ f is. never_answered (kind.write ∷ kind.memory ∷ []) e (faults.Trace f) refl told.kinds is;
      trace_cut =
          λ f is. never_answered (kind.write ∷ kind.memory ∷ []) e (faults.Trace f) refl told.kinds is;
      evidence_refused =
          λ f is. never_answered (kind.write ∷ kind.memory ∷ []) e (faults.Evidence f) refl told.kinds is;
      evidence_cut =
          λ f is. never_answered (kind.write ∷ kind.memory ∷ []) e (faults.Evidence f) refl told.kinds is;
      write = λ n is.
          let h = told.write n is in
          on_both trace evidence t read.given (λ a b. BreaksOffAt a b out n) given by.given.2
          (λ a b is says. (t, given, is, says, subst (λ (text : List ℕ). FailsWriting out n text) h.2.0 h.3));
      unwritten = told.unwritten;
      most = (read.most, by.most);
      known = (read.known, by.known);
      held = told.held;
      devices = devices_of_writing {V = Verdict} (Err e) ⊥ _ _ _ told.kinds told.failed;
      kept = tt;
      unfailed = λ none. (read.kept, by.kept, told.unfailed (unwritten_without_device e none));
    }

-- what is told of evidence for a trace is told of the bytes of both
pub told_by_bytes : {V : Type 0} {Says : List (Option (List StepValue)) → V → Type 0} {trace evidence : Reading}
    {t : TraceValue} {r : Result V AuditFault} (N : Type 0) (P : TraceValue → List (Option (List StepValue)) → Type 0)
    → TraceRead trace (Ok t) → EvidenceRead Says t evidence r
    → N ⊎ OfWhole evidence
    (λ b. (given : List (Option (List StepValue))) × (evidence_of t.entries true b ≡ Ok given) × P t given)
    → N ⊎ OfBoth trace evidence (λ a b. IsOfBytes a b P)
told_by_bytes N P read by (inl not) = inl not
told_by_bytes {trace = trace} {evidence = evidence} {t = t} N P read by (inr told) =
    inr
    (of_whole-map trace (λ a. trace_of true a ≡ Ok t) (λ a. OfWhole evidence (λ b. IsOfBytes a b P))
    (λ a is. of_whole-map evidence
    (λ b. (given : List (Option (List StepValue))) × (evidence_of t.entries true b ≡ Ok given) × P t given)
    (λ b. IsOfBytes a b P) (λ b h. (t, h.0, is, h.1, h.2)) told) read.given)

-- what is told of evidence that judges so is told of its bytes
pub told_of : {t : TraceValue} {evidence : Reading} {v : Vec Judged Global} (P : List (Option (List StepValue)) → Type 0)
    → EvidenceRead (λ given v. AreJudged t given v.items) t evidence (Ok v)
    → ((given : List (Option (List StepValue))) → AreJudged t given v.items → P given)
    → OfWhole evidence
    (λ b. (given : List (Option (List StepValue))) × (evidence_of t.entries true b ≡ Ok given) × P given)
told_of {t} {evidence} P read told =
    of_whole-map evidence (λ b. evidence_of t.entries true b ≡ Ok read.given.0)
    (λ b. (given : List (Option (List StepValue))) × (evidence_of t.entries true b ≡ Ok given) × P given)
    (λ b is. (read.given.0, is, told read.given.0 read.given.1)) read.given.2
