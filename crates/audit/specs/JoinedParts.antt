-- What reading the two parts of joined input tells.
use Rattle.std.specs.Prelude.{◌≡◌, ◌≢◌, ℕ, ◌+◌, ◌≤◌, true, List, [], ◌∷◌, length, Option, Result, Ok, Err, IfOk, IfErr}
use Rattle.std.specs.declared.vec.Vec.{Vec}
use Rattle.std.specs.declared.alloc.Global.{Global}
use Rattle.json_lines.specs.Joined.{ends_left, ComesPast, IsFront, IsTaken, RestValue}
use Rattle.json_lines.specs.Lines.{ComeAtMost}
use Rattle.json_lines.specs.declared.lines.InputFault.{InputFault}
use Rattle.json_lines.specs.declared.lines.InputFault.TheVariants.{Read, TooLong, OutOfMemory}
use Rattle.json_lines.specs.declared.lines.TheConstants.{CHUNK}
use Rattle.trace_lines.specs.Traces.{trace_of}
use Rattle.trace_lines.specs.Values.{TraceValue}
use Rattle.trace_lines.specs.declared.cause.TraceFault.{TraceFault}
use Rattle.evidence_check.specs.Judging.{AreJudged, GivesJudged}
use Rattle.evidence_check.specs.Reading.{evidence_of}
use Rattle.evidence_check.specs.Steps.{StepValue}
use Rattle.evidence_check.specs.declared.cause.EvidenceFault.{EvidenceFault}
use Rattle.evidence_check.specs.declared.judged.Judged.{Judged}
use Rattle.audit.specs.Audit.{RefusesTrace, RefusesEvidence, RefusesEvidenceFor, BlamesOnly}
use Rattle.audit.specs.Devices.{Reading, OfInput, GivesFew, GivesNext, ReaderFailed, ReaderNeverFailed}
use Rattle.audit.specs.Joined.{OfBothParts, HasNoParts}
use Rattle.audit.specs.Kinds.{IsOneOf}
use Rattle.audit.specs.Kinds as kind
use Rattle.audit.specs.declared.plain.AuditFault.{AuditFault}
use Rattle.audit.specs.declared.plain.AuditFault.TheVariants as faults

-- what joined input is refused for as a whole
abbrev pub of_input : InputFault → AuditFault
of_input Read = faults.Input
of_input TooLong = faults.Joined
of_input OutOfMemory = faults.OutOfMemory

-- the bytes say this trace, and this evidence for it
abbrev pub SayBoth : TraceValue → List (Option (List StepValue)) → List ℕ → List ℕ → Type 0
SayBoth t given a b = (trace_of true a ≡ Ok t) × (evidence_of t.entries true b ≡ Ok given)

-- Both parts were read, to the reader's end, and the evidence judges the entries of the trace so; or reading stopped.
pub record PartsRead (input : Reading) (result : Result (TraceValue × Vec Judged Global) AuditFault) : Type 0 where
  pub given : IfOk result (λ r. (given : List (Option (List StepValue))) × AreJudged r.0 given r.1.items
      × OfBothParts input (SayBoth r.0 given))
  pub trace_refused : (f : TraceFault) → result ≡ Err (faults.Trace f) → OfBothParts input (λ a b. RefusesTrace a f)
  pub evidence_refused : (f : EvidenceFault) → result ≡ Err (faults.Evidence f)
      → OfBothParts input (λ a b. RefusesEvidence a b f)
  pub joined : result ≡ Err faults.Joined → OfInput input HasNoParts
  pub most : GivesFew input
  pub known : GivesNext input
  pub devices : IfErr result (BlamesOnly (ReaderFailed input) ⊥ ⊥ ⊥)
  pub kept : result ≢ Err faults.Input → ReaderNeverFailed input
  pub kinds : IfErr result (IsOneOf (kind.trace ∷ kind.evidence ∷ kind.memory ∷ kind.joined ∷ kind.input ∷ []))

-- The trace in front of the marker was read, and what stands behind it is left; or reading stopped. Where the trace is
-- refused, all was read.
pub record FrontRead (input : Reading) (result : Result (TraceValue × RestValue) AuditFault) : Type 0 where
  pub given : IfOk result
      (λ r. IsFront input.before.given input.after.given r.1 (λ a. trace_of true a ≡ Ok r.0))
  pub ended : IfOk result (λ r. input.after.ends + ends_left r.1.ended ≡ input.before.ends + 1)
  pub trace_refused : (f : TraceFault) → result ≡ Err (faults.Trace f) → OfBothParts input (λ a b. RefusesTrace a f)
  pub joined : result ≡ Err faults.Joined → OfInput input HasNoParts
  pub most : GivesFew input
  pub known : GivesNext input
  pub devices : IfErr result (BlamesOnly (ReaderFailed input) ⊥ ⊥ ⊥)
  pub kept : result ≢ Err faults.Input → ReaderNeverFailed input
  pub kinds : IfErr result (IsOneOf (kind.trace ∷ kind.memory ∷ kind.joined ∷ kind.input ∷ []))

-- what stands behind the marker was read to the reader's end, and that holds of it
abbrev pub IsRead : Reading → RestValue → (List ℕ → Type 0) → Type 0
IsRead input rest P =
    IsTaken input.before.given input.after.given rest.at_hand (λ b. (length b ≤ rest.room) × P b)
    × (input.after.ends ≡ input.before.ends + ends_left rest.ended)
    × (rest.ended ≡ true → input.after.given ≡ input.before.given)

-- The evidence behind the marker was read, and judges the entries of the trace so; or reading stopped.
pub record BehindRead (t : TraceValue) (rest : RestValue) (input : Reading)
    (result : Result (Vec Judged Global) AuditFault) : Type 0 where
  pub given : IfOk result (λ v. IsRead input rest (λ b. GivesJudged t (Ok v) (evidence_of t.entries true b)))
  pub evidence_refused : (f : EvidenceFault) → result ≡ Err (faults.Evidence f)
      → IsRead input rest (λ b. RefusesEvidenceFor t b f)
  pub joined : result ≡ Err faults.Joined → ComesPast rest.room input.before.given input.after.given rest.at_hand
  pub most : ComeAtMost (rest.room + CHUNK) input.before.given input.after.given rest.at_hand
  pub known : GivesNext input
  pub devices : IfErr result (BlamesOnly (ReaderFailed input) ⊥ ⊥ ⊥)
  pub kept : result ≢ Err faults.Input → ReaderNeverFailed input
  pub kinds : IfErr result (IsOneOf (kind.evidence ∷ kind.memory ∷ kind.joined ∷ kind.input ∷ []))
