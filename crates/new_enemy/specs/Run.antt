-- What the program answers.
use Rattle.std.specs.Prelude.{◌≡◌, ◌≢◌, ◌⊎◌, ℕ, ◌<◌, ◌≤◌, true, List, [], ◌++◌, Result, Ok, Err, ⊤}
use Rattle.devices.specs.Devices.{moved_by, stops_of, flushes_of}
use Rattle.devices.specs.declared.counted.Counted.{Counted}
use Rattle.trace_lines.specs.Values.{TraceValue}
use Rattle.trace_lines.specs.Traces.{trace_of}
use Rattle.trace_lines.specs.declared.cause.Cause.TheVariants as causes
use Rattle.trace_lines.specs.declared.cause.TraceFault.{TraceFault}
use Rattle.evidence_check.specs.Reading.{evidence_of}
use Rattle.evidence_check.specs.declared.cause.EvidenceCause.TheVariants as evidence_causes
use Rattle.evidence_check.specs.declared.cause.EvidenceFault.{EvidenceFault}
use Rattle.audit.specs.Audit.{Audits}
use Rattle.findings.specs.EachEntry.{TellsOfEachEntry}
use Rattle.findings.specs.Headline.{IsTraceRightAndFresh}
use Rattle.findings.specs.WrongReplies.{NamesOnlyWrongReplies}
use Rattle.audit.specs.Joined.{HasNoParts, OfParts}
use Rattle.audit.specs.declared.plain.Verdict.{Verdict}
use Rattle.audit.specs.declared.plain.Verdict.TheVariants.{Clean, Dirty}
use Rattle.audit.specs.declared.plain.AuditFault.{AuditFault}
use Rattle.audit.specs.declared.plain.AuditFault.TheVariants as faults

-- the exit status of a fault: 2 for refused input, 3 for limits, 4 for out of memory, 5 for a device that failed
abbrev pub IsStatus : AuditFault → ℕ → Type 0
IsStatus (faults.Trace f) s = ((f.cause ≡ causes.Read) × (s ≡ 5)) ⊎ ((f.cause ≢ causes.Read) × (s ≡ 2))
IsStatus (faults.Evidence f) s =
    ((f.cause ≡ evidence_causes.Read) × (s ≡ 5)) ⊎ ((f.cause ≢ evidence_causes.Read) × (s ≡ 2))
IsStatus (faults.Write n) s = s ≡ 5
IsStatus faults.OutOfMemory s = s ≡ 4
IsStatus faults.Limits s = s ≡ 3
IsStatus faults.Joined s = s ≡ 2
IsStatus faults.Input s = s ≡ 5

-- the exit status of an answer: 0 for clean, 1 for dirty
abbrev pub IsStatusOf : Result Verdict AuditFault → ℕ → Type 0
IsStatusOf (Ok Clean) s = s ≡ 0
IsStatusOf (Ok Dirty) s = s ≡ 1
IsStatusOf (Err fault) s = (2 ≤ s) × IsStatus fault s

-- the exit status of an answer with another value: 0 where there is one
abbrev pub IsStatusDone : {V : Type 0} → Result V AuditFault → ℕ → Type 0
IsStatusDone (Ok v) s = s ≡ 0
IsStatusDone (Err fault) s = (2 ≤ s) × IsStatus fault s

-- the bytes say no trace
abbrev pub SayNoTrace : List ℕ → Type 0
SayNoTrace a = (f : TraceFault) × (trace_of true a ≡ Err f)

-- the bytes say no trace, or no evidence for it
abbrev pub SayNoAudit : List ℕ → List ℕ → Type 0
SayNoAudit a b =
    SayNoTrace a
    ⊎ ((t : TraceValue) × (trace_of true a ≡ Ok t) × (f : EvidenceFault) × (evidence_of t.entries true b ≡ Err f))

-- joined input that is refused
abbrev pub IsRefused : List ℕ → Type 0
IsRefused input = HasNoParts input ⊎ OfParts SayNoAudit input

-- ---- the program on its devices, by all that they gave and took

-- A fact of every input that a device may have: the bytes that it gave, and behind them any others, but none where it
-- was at its end.
abbrev pub OfEveryInput : {R : Type 0} → Counted R → (List ℕ → Type 0) → Type 0
OfEveryInput input P = (rest : List ℕ) → (0 < stops_of input → rest ≡ []) → P (moved_by input ++ rest)

-- All that was read, to its end, is a trace and evidence for it. All that was written is the report on them, with
-- this verdict, and a flush was asked for; a reply that a finding calls wrong is wrong; and of each entry by itself,
-- what is wrong with it is told on its line.
abbrev pub IsRun : {R W : Type 0} → Verdict → (List ℕ → Type 0) → Counted R → Counted W → Type 0
IsRun v OfTrace input out =
    (stops_of input ≡ 1) × (flushes_of out ≡ 1)
    × OfParts (λ a b. Audits a b [] (moved_by out) v × NamesOnlyWrongReplies a b × TellsOfEachEntry a b × OfTrace a)
    (moved_by input)

-- and the trace is right and fresh
abbrev pub IsCleanRun : {R W : Type 0} → Counted R → Counted W → Type 0
IsCleanRun input out = IsRun Clean IsTraceRightAndFresh input out

abbrev pub IsDirtyRun : {R W : Type 0} → Counted R → Counted W → Type 0
IsDirtyRun input out = IsRun Dirty (λ a. ⊤) input out
