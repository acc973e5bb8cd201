-- What the status of a command with files tells of them.
use Rattle.std.proofs.Common.{◌≡◌, ◌≢◌, inl, inr, ℕ, true, List, [], ◌∷◌, ◌++◌, Result, Ok, Err, refl, sym, ap, subst, ◌∙◌, arith}
use Rattle.std.specs.Prelude.{IfErr}
use Rattle.devices.specs.Devices.{moved_by, stops_of}
use Rattle.devices.specs.Given.{OfWhole, OfInput}
use Rattle.devices.specs.declared.counted.Counted.{Counted}
use Rattle.devices.proofs.Given.{of_input-map, of_input-whole, of_whole-map}
use Rattle.trace_lines.specs.Traces.{trace_of}
use Rattle.trace_lines.specs.declared.cause.Cause.TheVariants as causes
use Rattle.trace_lines.specs.declared.cause.TraceFault.{TraceFault}
use Rattle.evidence_check.specs.Reading.{evidence_of}
use Rattle.evidence_check.specs.declared.cause.EvidenceCause.TheVariants as evidence_causes
use Rattle.evidence_check.specs.declared.cause.EvidenceFault.{EvidenceFault}
use Rattle.audit.specs.Audit.{RefusesTrace, RefusesEvidence}
use Rattle.audit.specs.Kinds.{IsOneOf}
use Rattle.audit.specs.Kinds as kind
use Rattle.audit.specs.declared.plain.AuditFault.{AuditFault}
use Rattle.audit.specs.declared.plain.AuditFault.TheVariants as faults
use Rattle.audit.specs.declared.plain.Verdict.{Verdict}
use Rattle.new_enemy.specs.Files.{IsNoTrace, IsNoAudit}
use Rattle.new_enemy.specs.Run.{IsStatus, SayNoTrace, SayNoAudit, OfEveryInput}
use Rattle.new_enemy.proofs.Statuses.{Ends, said_by_trace, said_by_evidence, two_or_five}

-- of a device whose history began with the call
pub of_every_input : {R : Type 0} (old new : Counted R) (P : List ℕ → Type 0) → moved_by old ≡ [] → stops_of old ≡ 0
    → OfInput moved_by stops_of old new P → OfEveryInput new P
of_every_input old new P nothing no_end h = λ rest ended.
    subst (λ (l : List ℕ). P (l ++ rest)) (sym (h.1 ∙ ap (λ (l : List ℕ). l ++ h.0) nothing))
    (h.2 rest (λ later. ended (omega (arith, later, no_end))))

module _ {A : Type 0} (a0 a1 : Counted A) (nothing : moved_by a0 ≡ []) (no_end : stops_of a0 ≡ 0) where
  trace_refused : (f : TraceFault) → f.cause ≢ causes.Read → f.cause ≢ causes.OutOfMemory
      → OfInput moved_by stops_of a0 a1 (λ a. RefusesTrace a f) → IsNoTrace a1
  trace_refused f read memory h =
      of_every_input a0 a1 SayNoTrace nothing no_end
      (of_input-map moved_by stops_of a0 a1 (λ a. RefusesTrace a f) SayNoTrace
      (λ a by. (f, said_by_trace f.cause f (trace_of true a) read memory by)) h)

  -- a fault of a call that reads a trace alone
  fault_of_trace : (fault : AuditFault) (s : ℕ) → IsStatus fault s
      → IsOneOf (kind.trace ∷ kind.write ∷ kind.memory ∷ kind.limits ∷ []) fault
      → ((f : TraceFault) → fault ≡ faults.Trace f → OfInput moved_by stops_of a0 a1 (λ a. RefusesTrace a f)) → s ≡ 2
      → IsNoTrace a1
  fault_of_trace (faults.Trace f) s (inl p) of t two = two_or_five s two p.1
  fault_of_trace (faults.Trace f) s (inr p) of t two = trace_refused f p.0 of.1 (t f refl)
  fault_of_trace (faults.Write n) s five of t two = two_or_five s two five
  fault_of_trace faults.OutOfMemory s four of t two = absurd (omega (arith, four, two))
  fault_of_trace faults.Limits s three of t two = absurd (omega (arith, three, two))
  fault_of_trace _ s st of t two = absurd (cc (of.0))

  -- an answer of one
  pub no_trace : {V : Type 0} (answer : Result V AuditFault) (s : ℕ) → Ends answer s
      → IfErr answer (IsOneOf (kind.trace ∷ kind.write ∷ kind.memory ∷ kind.limits ∷ []))
      → ((f : TraceFault) → answer ≡ Err (faults.Trace f) → OfInput moved_by stops_of a0 a1 (λ a. RefusesTrace a f))
      → s ≡ 2 → IsNoTrace a1
  no_trace (Ok v) s ends of t two = absurd (omega (arith, ends, two))
  no_trace (Err e) s ends of t two =
      fault_of_trace e s ends.1 of (λ f is. t f (ap (λ (x : AuditFault). Err x) is)) two

  module _ (b0 b1 : Counted A) (nothing_yet : moved_by b0 ≡ []) (no_end_yet : stops_of b0 ≡ 0) where
    evidence_refused : (f : EvidenceFault) → f.cause ≢ evidence_causes.Read → f.cause ≢ evidence_causes.OutOfMemory
        → OfWhole moved_by stops_of a0 a1 (λ a. OfInput moved_by stops_of b0 b1 (λ b. RefusesEvidence a b f))
        → IsNoAudit a1 b1
    evidence_refused f read memory h =
        of_every_input a0 a1 (λ a. OfEveryInput b1 (λ b. SayNoAudit a b)) nothing no_end
        (of_input-whole moved_by stops_of a0 a1 (λ a. OfEveryInput b1 (λ b. SayNoAudit a b))
        (of_whole-map moved_by stops_of a0 a1 (λ a. OfInput moved_by stops_of b0 b1 (λ b. RefusesEvidence a b f))
        (λ a. OfEveryInput b1 (λ b. SayNoAudit a b))
        (λ a by. of_every_input b0 b1 (λ b. SayNoAudit a b) nothing_yet no_end_yet
        (of_input-map moved_by stops_of b0 b1 (λ b. RefusesEvidence a b f) (λ b. SayNoAudit a b)
        (λ b r. inr (r.0, r.1, f, said_by_evidence f.cause f (evidence_of r.0.entries true b) read memory r.2)) by)) h))

    fault_of_audit : (fault : AuditFault) (s : ℕ) → IsStatus fault s
        → IsOneOf (kind.trace ∷ kind.evidence ∷ kind.write ∷ kind.memory ∷ kind.limits ∷ []) fault
        → ((f : TraceFault) → fault ≡ faults.Trace f → OfInput moved_by stops_of a0 a1 (λ a. RefusesTrace a f))
        → ((f : EvidenceFault) → fault ≡ faults.Evidence f
        → OfWhole moved_by stops_of a0 a1 (λ a. OfInput moved_by stops_of b0 b1 (λ b. RefusesEvidence a b f)))
        → s ≡ 2 → IsNoAudit a1 b1
    fault_of_audit (faults.Trace f) s (inl p) of t e two = two_or_five s two p.1
    fault_of_audit (faults.Trace f) s (inr p) of t e two = λ rest ended more done.
        inl (trace_refused f p.0 of.1 (t f refl) rest ended)
    fault_of_audit (faults.Evidence f) s (inl p) of t e two = two_or_five s two p.1
    fault_of_audit (faults.Evidence f) s (inr p) of t e two = evidence_refused f p.0 of.1 (e f refl)
    fault_of_audit (faults.Write n) s five of t e two = two_or_five s two five
    fault_of_audit faults.OutOfMemory s four of t e two = absurd (omega (arith, four, two))
    fault_of_audit faults.Limits s three of t e two = absurd (omega (arith, three, two))
    fault_of_audit _ s st of t e two = absurd (cc (of.0))

    -- an answer of a call that reads a trace and evidence
    pub no_audit : (answer : Result Verdict AuditFault) (s : ℕ) → Ends answer s
        → IfErr answer (IsOneOf (kind.trace ∷ kind.evidence ∷ kind.write ∷ kind.memory ∷ kind.limits ∷ []))
        → ((f : TraceFault) → answer ≡ Err (faults.Trace f) → OfInput moved_by stops_of a0 a1 (λ a. RefusesTrace a f))
        → ((f : EvidenceFault) → answer ≡ Err (faults.Evidence f)
        → OfWhole moved_by stops_of a0 a1 (λ a. OfInput moved_by stops_of b0 b1 (λ b. RefusesEvidence a b f)))
        → s ≡ 2 → IsNoAudit a1 b1
    no_audit (Ok v) s ends of t e two = absurd (omega (arith, ends, two))
    no_audit (Err x) s ends of t e two =
        fault_of_audit x s ends.1 of (λ f is. t f (ap (λ (y : AuditFault). Err y) is))
        (λ f is. e f (ap (λ (y : AuditFault). Err y) is)) two
