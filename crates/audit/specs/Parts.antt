-- What a call does in its parts, each fact said once: what reading a trace or evidence tells, and what writing a text
-- does.
use Rattle.std.specs.Prelude.{◌≡◌, ℕ, ◌+◌, true, false, List, [], ◌∷◌, ◌++◌, Option, Result, Ok, Err, IfOk, IfErr, OnOk}
use Rattle.std.specs.declared.vec.Vec.{Vec}
use Rattle.std.specs.declared.alloc.Global.{Global}
use Rattle.trace_lines.specs.Values.{TraceValue}
use Rattle.trace_lines.specs.Results.{FailsBy}
use Rattle.trace_lines.specs.Traces.{trace_of}
use Rattle.trace_lines.specs.declared.cause.Cause.TheVariants as causes
use Rattle.trace_lines.specs.declared.cause.TraceFault.{TraceFault}
use Rattle.evidence_check.specs.Reading.{evidence_of}
use Rattle.evidence_check.specs.Steps.{StepValue}
use Rattle.evidence_check.specs.declared.cause.EvidenceCause.TheVariants as evidence_causes
use Rattle.evidence_check.specs.declared.cause.EvidenceFault.{EvidenceFault}
use Rattle.findings.specs.Findings.{findings_of}
use Rattle.findings.specs.declared.finding.Finding.{Finding}
use Rattle.audit.specs.Audit.{RefusesEvidenceFor, Says, BlamesNoDevice, IsNotWrite, IsWrite, report_on, verdict_of}
use Rattle.audit.specs.Kinds.{IsOneOf}
use Rattle.audit.specs.Kinds as kind
use Rattle.audit.specs.Devices.{Reading, Writing, OfBytes, OfWhole, OfInput, GivesFew, GivesNext}
use Rattle.audit.specs.Devices.{ReaderFailed, ReaderNeverFailed, WriterFailed, WriterNeverFailed}
use Rattle.audit.specs.Devices.{TookNothing, FailsWriting, StandsBehind}
use Rattle.audit.specs.declared.plain.Verdict.{Verdict}
use Rattle.audit.specs.declared.plain.AuditFault.{AuditFault}
use Rattle.audit.specs.declared.plain.AuditFault.TheVariants as faults

-- what an input says was read to the reader's end, or its reading stopped at a fault
pub record LogRead (says : Says) (trace : Reading) (result : Result TraceValue AuditFault) : Type 0 where
  pub given : IfOk result (λ t. OfWhole trace (λ a. says true a ≡ Ok t))
  pub refused : (f : TraceFault) → result ≡ Err (faults.Trace f) → OfInput trace (λ a. FailsBy f.cause f (says true a))
  -- where the reader failed (the flag false), the fault is of the line that its bytes had come to
  pub cut : (f : TraceFault) → result ≡ Err (faults.Trace f) → f.cause ≡ causes.Read
      → OfBytes trace (λ a. says false a ≡ Err f)
  pub most : GivesFew trace
  pub known : GivesNext trace
  pub failed : (f : TraceFault) → result ≡ Err (faults.Trace f) → f.cause ≡ causes.Read → ReaderFailed trace
  pub kept : OnOk result (ReaderNeverFailed trace)
  pub unfailed : IfErr result (λ e. BlamesNoDevice e → ReaderNeverFailed trace)
  pub kinds : IfErr result (IsOneOf (kind.trace ∷ kind.memory ∷ []))

-- so a trace was read
abbrev pub TraceRead : Reading → Result TraceValue AuditFault → Type 0
TraceRead = LogRead trace_of

-- So it is with the evidence for a trace. Says tells how the answer shows what was given.
pub record EvidenceRead {V : Type 0} (Says : List (Option (List StepValue)) → V → Type 0) (t : TraceValue)
    (evidence : Reading) (result : Result V AuditFault) : Type 0 where
  pub given : IfOk result (λ v. (given : List (Option (List StepValue))) × Says given v
      × OfWhole evidence (λ b. evidence_of t.entries true b ≡ Ok given))
  pub refused : (f : EvidenceFault) → result ≡ Err (faults.Evidence f)
      → OfInput evidence (λ b. RefusesEvidenceFor t b f)
  pub cut : (f : EvidenceFault) → result ≡ Err (faults.Evidence f) → f.cause ≡ evidence_causes.Read
      → OfBytes evidence (λ b. evidence_of t.entries false b ≡ Err f)
  pub most : GivesFew evidence
  pub known : GivesNext evidence
  pub failed : (f : EvidenceFault) → result ≡ Err (faults.Evidence f) → f.cause ≡ evidence_causes.Read
      → ReaderFailed evidence
  pub kept : OnOk result (ReaderNeverFailed evidence)
  pub unfailed : IfErr result (λ e. BlamesNoDevice e → ReaderNeverFailed evidence)
  pub kinds : IfErr result (IsOneOf (kind.evidence ∷ kind.memory ∷ []))

-- A text, and an answer of which Says holds, were told: the text went out whole and was flushed, or the writer stopped
-- it, or there was no memory for it.
pub record Told {V : Type 0} (Says : List ℕ → V → Type 0) (out : Writing) (result : Result V AuditFault) : Type 0 where
  pub text : IfOk result (λ v. (text : List ℕ) × Says text v × (out.after.taken ≡ out.before.taken ++ text))
  pub flushed : OnOk result (out.after.flushes ≡ out.before.flushes + 1)
  -- the first n bytes went out, and the writer failed or took none of some; where these are all, a flush was asked
  -- for, and else none was
  pub write : (n : ℕ) → result ≡ Err (faults.Write n)
      → (v : V) × (text : List ℕ) × Says text v × FailsWriting out n text
  pub failed : IfErr result (λ e. IsWrite e → WriterFailed out)
  pub kept : OnOk result (WriterNeverFailed out)
  -- of memory alone nothing is written
  pub kinds : IfErr result (IsOneOf (kind.write ∷ kind.memory ∷ []))
  pub unwritten : IfErr result (λ e. IsNotWrite e → TookNothing out)
  pub unfailed : IfErr result (λ e. IsNotWrite e → WriterNeverFailed out)
  pub held : StandsBehind out

-- the report on a trace by evidence, and its verdict
abbrev pub IsReport : TraceValue → List (Option (List StepValue)) → List ℕ → Verdict → Type 0
IsReport t given text v = (text ≡ report_on t given) × (v ≡ verdict_of (findings_of t given))

-- what is found on a trace by evidence
abbrev pub AreFound : TraceValue → List (Option (List StepValue)) → Vec Finding Global → Type 0
AreFound t given v = v.items ≡ findings_of t given
