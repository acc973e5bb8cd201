-- What calls of this crate answer. An audit from two readers has the record `Audited`, a call that reads a trace and
-- tells of it `TellsOfTrace`, and an audit by evidence that is made `AuditedMade`; that of joined input,
-- `AuditedJoined`, stands in `Joined`. Beside the record, a call's contract says what that call alone does.
--
-- `BlamesOnly` has four places: for the reader of joined input, for that of the trace, for that of the evidence, and
-- for the writer. Where ⊥ stands in one, the call never blames that device. The flag of `trace_of` and `evidence_of`
-- is true of bytes that are the whole input, and false where the reader failed behind them.
use Rattle.std.specs.Prelude.{◌≡◌, ℕ, ◌+◌, false, List, Result, Ok, Err, IfOk, IfErr, OnOk}
use Rattle.trace_lines.specs.Traces.{trace_of}
use Rattle.trace_lines.specs.declared.cause.Cause.TheVariants as causes
use Rattle.trace_lines.specs.declared.cause.TraceFault.{TraceFault}
use Rattle.evidence_check.specs.declared.cause.EvidenceCause.TheVariants as evidence_causes
use Rattle.evidence_check.specs.declared.cause.EvidenceFault.{EvidenceFault}
use Rattle.findings.specs.EachEntry.{TellsOfEachEntry}
use Rattle.findings.specs.Headline.{IsTraceRightAndFresh}
use Rattle.findings.specs.WrongReplies.{NamesOnlyWrongReplies}
use Rattle.audit.specs.Audit.{Audits, BreaksOffAt, RefusesTrace, RefusesEvidence, CutsEvidence}
use Rattle.audit.specs.Audit.{BlamesOnly, BlamesNoDevice, IsNotWrite}
use Rattle.audit.specs.Devices.{Reading, Writing, OfBytes, OfWhole, OfInput, OfBoth, GivesFew, GivesNext}
use Rattle.audit.specs.Devices.{ReaderFailed, ReaderNeverFailed, WriterFailed, WriterNeverFailed, TookNothing, StandsBehind}
use Rattle.audit.specs.MadeAudit.{AuditsMade, BreaksMade, SpeaksOfMade}
use Rattle.audit.specs.declared.plain.Verdict.{Verdict}
use Rattle.audit.specs.declared.plain.Verdict.TheVariants.{Clean}
use Rattle.audit.specs.declared.plain.AuditFault.{AuditFault}
use Rattle.audit.specs.declared.plain.AuditFault.TheVariants as faults

-- An audit of a trace by evidence, each from its reader.
pub record Audited (trace evidence : Reading) (out : Writing) (result : Result Verdict AuditFault) : Type 0 where
  -- the report on what the readers gave, to their ends, went out whole, and the verdict is its last line
  pub audits : IfOk result (λ v. OfBoth trace evidence (λ a b. Audits a b out.before.taken out.after.taken v))
  pub flushed : OnOk result (out.after.flushes ≡ out.before.flushes + 1)
  -- A clean verdict says that each reply is what the rules mean over the tuples committed up to its snapshot; that no
  -- check is older than its zookie, nor than the content check of the version that it names, nor than any commit on a
  -- line before that content check; that entries are closed, content checks latest, and issued tokens carry their
  -- snapshots; and that each check of a version saw all access changes before that version's content check.
  pub headline : result ≡ Ok Clean → OfWhole trace IsTraceRightAndFresh
  -- whatever the verdict: a reply that a finding F10 calls wrong is wrong
  pub wrong_replies : OnOk result (OfBoth trace evidence NamesOnlyWrongReplies)
  -- Whatever the verdict, of each entry by itself: what is wrong with it stands on its line; and where nothing stands
  -- there, its reply is right, and its tokens are in order.
  pub entries : OnOk result (OfBoth trace evidence TellsOfEachEntry)
  -- a refusal holds of every input that begins with the bytes that came
  pub trace_refused : (f : TraceFault) → result ≡ Err (faults.Trace f) → OfInput trace (λ a. RefusesTrace a f)
  -- where a reader failed (the flag false), the fault is of the line that its bytes had come to
  pub trace_cut : (f : TraceFault) → result ≡ Err (faults.Trace f) → f.cause ≡ causes.Read
      → OfBytes trace (λ a. trace_of false a ≡ Err f)
  pub evidence_refused : (f : EvidenceFault) → result ≡ Err (faults.Evidence f)
      → OfWhole trace (λ a. OfInput evidence (λ b. RefusesEvidence a b f))
  pub evidence_cut : (f : EvidenceFault) → result ≡ Err (faults.Evidence f) → f.cause ≡ evidence_causes.Read
      → OfWhole trace (λ a. OfBytes evidence (λ b. CutsEvidence a b f))
  -- the first n bytes went out, and no others; where these are all, a flush was asked for, and else none was
  pub write : (n : ℕ) → result ≡ Err (faults.Write n)
      → OfBoth trace evidence (λ a b. BreaksOffAt a b out n)
  -- under any other fault nothing was written
  pub unwritten : IfErr result (λ e. IsNotWrite e → TookNothing out)
  -- at most 2^30 + 65,536 bytes came, also from a reader that never ends
  pub most : GivesFew trace × GivesFew evidence
  -- of devices in memory: what came is the next of what a reader had left, and all of it where the reader was at its
  -- end; and what went out stands behind what the writer held
  pub known : GivesNext trace × GivesNext evidence
  pub held : StandsBehind out
  -- A device is blamed only where it failed, the writer also where it took none of some bytes. A verdict, and a fault
  -- that blames no device, come only where no device did so. There is no reader of joined input.
  pub devices : IfErr result (BlamesOnly ⊥ (ReaderFailed trace) (ReaderFailed evidence) (WriterFailed out))
  pub kept : OnOk result (ReaderNeverFailed trace × ReaderNeverFailed evidence × WriterNeverFailed out)
  pub unfailed : IfErr result (λ e. BlamesNoDevice e
      → ReaderNeverFailed trace × ReaderNeverFailed evidence × WriterNeverFailed out)

-- A call that reads a trace and tells of it. Tells is what stands between the bytes of the trace, what the writer took
-- before and after, and the answer; Breaks is what stands between these bytes, the writer, and how many bytes went
-- out, where the answer is Write.
pub record TellsOfTrace {V : Type 0} (Tells : List ℕ → List ℕ → List ℕ → V → Type 0)
    (Breaks : List ℕ → Writing → ℕ → Type 0) (trace : Reading) (out : Writing)
    (result : Result V AuditFault) : Type 0 where
  -- what is told of all that the reader gave, to its end, went out whole
  pub told : IfOk result (λ v. OfWhole trace (λ a. Tells a out.before.taken out.after.taken v))
  pub flushed : OnOk result (out.after.flushes ≡ out.before.flushes + 1)
  -- a refusal holds of every input that begins with the bytes that came
  pub trace_refused : (f : TraceFault) → result ≡ Err (faults.Trace f) → OfInput trace (λ a. RefusesTrace a f)
  -- where a reader failed (the flag false), the fault is of the line that its bytes had come to
  pub trace_cut : (f : TraceFault) → result ≡ Err (faults.Trace f) → f.cause ≡ causes.Read
      → OfBytes trace (λ a. trace_of false a ≡ Err f)
  -- the first n bytes went out, and no others; where these are all, a flush was asked for, and else none was
  pub write : (n : ℕ) → result ≡ Err (faults.Write n) → OfWhole trace (λ a. Breaks a out n)
  -- under any other fault nothing was written
  pub unwritten : IfErr result (λ e. IsNotWrite e → TookNothing out)
  -- at most 2^30 + 65,536 bytes came, also from a reader that never ends
  pub most : GivesFew trace
  -- of devices in memory: what came is the next of what a reader had left, and all of it where the reader was at its
  -- end; and what went out stands behind what the writer held
  pub known : GivesNext trace
  pub held : StandsBehind out
  -- A device is blamed only where it failed, the writer also where it took none of some bytes. A verdict, and a fault
  -- that blames no device, come only where no device did so. There is no reader of joined input, and none of evidence.
  pub devices : IfErr result (BlamesOnly ⊥ (ReaderFailed trace) ⊥ (WriterFailed out))
  pub kept : OnOk result (ReaderNeverFailed trace × WriterNeverFailed out)
  pub unfailed : IfErr result (λ e. BlamesNoDevice e → ReaderNeverFailed trace × WriterNeverFailed out)

-- An audit of a trace by evidence that is made for it.
pub record AuditedMade (trace : Reading) (out : Writing) (result : Result Verdict AuditFault) : Type 0 where
  -- As of each call that reads a trace and tells of it. With a verdict, the report on all that the reader gave, and on
  -- some evidence that is made for it, went out whole, and the verdict is its last line; under Write its first bytes
  -- went out.
  pub of_trace : TellsOfTrace AuditsMade BreaksMade trace out result
  -- A clean verdict says that each reply is what the rules mean over the tuples committed up to its snapshot; that no
  -- check is older than its zookie, nor than the content check of the version that it names, nor than any commit on a
  -- line before that content check; that entries are closed, content checks latest, and issued tokens carry their
  -- snapshots; and that each check of a version saw all access changes before that version's content check.
  pub headline : result ≡ Ok Clean → OfWhole trace IsTraceRightAndFresh
  -- whatever the verdict: what holds of the findings whatever evidence is made, and so of this report
  pub made : OnOk result (OfWhole trace SpeaksOfMade)
