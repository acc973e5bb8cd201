-- What an audit answers and writes.
use Rattle.std.specs.Prelude.{◌≡◌, ◌≢◌, ℕ, Bool, true, false, List, [], ◌∷◌, ◌++◌, length, Option, Result, Ok, Err, ⊤}
use Rattle.trace_lines.specs.Values.{TraceValue}
use Rattle.trace_lines.specs.Traces.{trace_of}
use Rattle.trace_lines.specs.Results.{FailsBy}
use Rattle.trace_lines.specs.declared.cause.Cause.TheVariants as causes
use Rattle.trace_lines.specs.declared.cause.TraceFault.{TraceFault}
use Rattle.evidence_check.specs.Reading as evidence
use Rattle.evidence_check.specs.Reading.{evidence_of}
use Rattle.evidence_check.specs.declared.cause.EvidenceCause.TheVariants as evidence_causes
use Rattle.evidence_check.specs.declared.cause.EvidenceFault.{EvidenceFault}
use Rattle.evidence_check.specs.Steps.{StepValue}
use Rattle.findings.specs.Findings.{findings_of}
use Rattle.findings.specs.Report.{report_text}
use Rattle.findings.specs.declared.finding.Finding.{Finding}
use Rattle.audit.specs.Devices.{Writing, FailsWriting}
use Rattle.audit.specs.declared.plain.Verdict.{Verdict}
use Rattle.audit.specs.declared.plain.Verdict.TheVariants.{Clean, Dirty}
use Rattle.audit.specs.declared.plain.AuditFault.{AuditFault}
use Rattle.audit.specs.declared.plain.AuditFault.TheVariants as faults

-- what an input says, by itself or behind a log: whole where the flag is true, and else as far as it came
abbrev pub Says : Type 0
Says = Bool → List ℕ → Result TraceValue TraceFault

-- clean exactly where there is no finding
abbrev pub verdict_of : List Finding → Verdict
verdict_of [] = Clean
verdict_of (f ∷ fs) = Dirty

-- the report on a trace by its evidence
abbrev pub report_on : TraceValue → List (Option (List StepValue)) → List ℕ
report_on t evidence = report_text (findings_of t evidence) (length t.entries)

abbrev pub IsWrite : AuditFault → Type 0
IsWrite (faults.Write n) = ⊤
IsWrite _ = ⊥

-- a fault that is no fault of writing
abbrev pub IsNotWrite : AuditFault → Type 0
IsNotWrite (faults.Write n) = ⊥
IsNotWrite _ = ⊤

-- ---- what the readers' bytes say

-- The flag of `trace_of` and `evidence_of` is true of bytes that are the whole input. It is false where the reader
-- failed behind them: then the line that they had come to is not whole, and the fault is of it, or of a line before.

-- the bytes say a trace and evidence for it, and the report on them went out
abbrev pub Audits : List ℕ → List ℕ → List ℕ → List ℕ → Verdict → Type 0
Audits a b old new v =
    (t : TraceValue) × (given : List (Option (List StepValue)))
    × (trace_of true a ≡ Ok t) × (evidence_of t.entries true b ≡ Ok given)
    × (new ≡ old ++ report_on t given) × (v ≡ verdict_of (findings_of t given))

-- the bytes say a trace and evidence for it, of which P holds
abbrev pub IsOfBytes : List ℕ → List ℕ → (TraceValue → List (Option (List StepValue)) → Type 0) → Type 0
IsOfBytes a b P =
    (t : TraceValue) × (given : List (Option (List StepValue)))
    × (trace_of true a ≡ Ok t) × (evidence_of t.entries true b ≡ Ok given) × P t given

-- the bytes say no trace, and this is their first fault; where it is of memory or of the reader nothing is said of them
abbrev pub RefusesTrace : List ℕ → TraceFault → Type 0
RefusesTrace a f = FailsBy f.cause f (trace_of true a)

-- so it is with bytes of evidence for a trace
abbrev pub RefusesEvidenceFor : TraceValue → List ℕ → EvidenceFault → Type 0
RefusesEvidenceFor t b f = evidence.FailsBy f.cause f (evidence_of t.entries true b)

-- the bytes say a trace, and the fault is that of the evidence for it
abbrev pub RefusesEvidence : List ℕ → List ℕ → EvidenceFault → Type 0
RefusesEvidence a b f = (t : TraceValue) × (trace_of true a ≡ Ok t) × RefusesEvidenceFor t b f

-- the bytes say a trace and evidence for it, and the report on them went out up to its first n bytes
abbrev pub BreaksOffAt : List ℕ → List ℕ → Writing → ℕ → Type 0
BreaksOffAt a b out n =
    (t : TraceValue) × (given : List (Option (List StepValue)))
    × (trace_of true a ≡ Ok t) × (evidence_of t.entries true b ≡ Ok given)
    × FailsWriting out n (report_on t given)

-- ---- the devices

-- the bytes say a trace; the reader of the evidence failed, and the fault is of the line that its bytes had come to
abbrev pub CutsEvidence : List ℕ → List ℕ → EvidenceFault → Type 0
CutsEvidence a came f = (t : TraceValue) × (trace_of true a ≡ Ok t) × (evidence_of t.entries false came ≡ Err f)

-- A device is blamed only where the sentence for it holds. In order the four are for the reader of joined input, for
-- that of the trace, for that of the evidence, and for the writer; ⊥ says that the device is never blamed.
abbrev pub BlamesOnly : (input trace evidence out : Type 0) → AuditFault → Type 0
BlamesOnly input trace evidence out (faults.Trace f) = f.cause ≡ causes.Read → trace
BlamesOnly input trace evidence out (faults.Evidence f) = f.cause ≡ evidence_causes.Read → evidence
BlamesOnly input trace evidence out (faults.Write n) = out
BlamesOnly input trace evidence out faults.Input = input
BlamesOnly input trace evidence out _ = ⊤

-- the fault is of no device
abbrev pub BlamesNoDevice : AuditFault → Type 0
BlamesNoDevice (faults.Trace f) = f.cause ≢ causes.Read
BlamesNoDevice (faults.Evidence f) = f.cause ≢ evidence_causes.Read
BlamesNoDevice (faults.Write n) = ⊥
BlamesNoDevice faults.Input = ⊥
BlamesNoDevice _ = ⊤
