-- What readers say and what a writer took, put together.
use Rattle.std.proofs.Common.{◌≡◌, ℕ, true, false, List, [], ◌∷◌, Option, Result, Ok, Err, arith, refl, sym, ◌∙◌, append-nil}
use Rattle.std.specs.Prelude.{IfErr}
use Rattle.devices.proofs.Given as devices
use Rattle.devices.proofs.Given.{next-refl}
use Rattle.trace_lines.specs.Values.{TraceValue}
use Rattle.trace_lines.specs.Traces.{trace_of}
use Rattle.evidence_check.specs.Reading.{evidence_of}
use Rattle.evidence_check.specs.Steps.{StepValue}
use Rattle.evidence_check.specs.declared.cause.EvidenceCause.TheVariants as evidence_causes
use Rattle.evidence_check.specs.declared.cause.EvidenceFault.{EvidenceFault}
use Rattle.trace_lines.specs.declared.cause.Cause.TheVariants as causes
use Rattle.trace_lines.specs.declared.cause.TraceFault.{TraceFault}
use Rattle.audit.specs.Audit.{RefusesEvidence, RefusesEvidenceFor, CutsEvidence, BlamesOnly, BlamesNoDevice, IsNotWrite, IsWrite, verdict_of}
use Rattle.audit.specs.Kinds.{IsOneOf}
use Rattle.audit.specs.Kinds as kind
use Rattle.audit.proofs.KindLemmas.{of_writing}
use Rattle.std.proofs.KnownBytes.{Appends-nil}
use Rattle.audit.specs.Devices.{Reader, Reading, Writer, OfBytes, OfWhole, OfInput, OfBoth, GivesFew, GivesNext, StandsBehind}
use Rattle.findings.specs.declared.finding.Finding.{Finding}
use Rattle.audit.specs.declared.plain.Verdict.{Verdict}
use Rattle.audit.specs.declared.plain.Verdict.TheVariants.{Clean}
use Rattle.audit.specs.declared.plain.AuditFault.{AuditFault}
use Rattle.audit.specs.declared.plain.AuditFault.TheVariants as faults

pub of_whole-map : (r : Reading) (P Q : List ℕ → Type 0) → ((a : List ℕ) → P a → Q a) → OfWhole r P → OfWhole r Q
of_whole-map r P Q f h =
    devices.of_whole-map (λ (s : Reader). s.given) (λ (s : Reader). s.ends) r.before r.after P Q f h

pub of_input-map : (r : Reading) (P Q : List ℕ → Type 0) → ((a : List ℕ) → P a → Q a) → OfInput r P → OfInput r Q
of_input-map r P Q f h =
    devices.of_input-map (λ (s : Reader). s.given) (λ (s : Reader). s.ends) r.before r.after P Q f h

pub of_bytes-map : (r : Reading) (P Q : List ℕ → Type 0) → ((a : List ℕ) → P a → Q a) → OfBytes r P → OfBytes r Q
of_bytes-map r P Q f h =
    devices.of_bytes-map (λ (s : Reader). s.given) r.before r.after P Q f h

-- what holds of a device that a call leaves alone
pub few_at_rest : (r : Reader) → GivesFew (record { before = r; after = r })
few_at_rest r = ([], sym (append-nil r.given), omega (arith))

pub next_at_rest : (r : Reader) → GivesNext (record { before = r; after = r })
next_at_rest r = next-refl (λ (s : Reader). s.given) (λ (s : Reader). s.ends) (λ (s : Reader). s.left) r

pub behind_at_rest : (w : Writer) → StandsBehind (record { before = w; after = w })
behind_at_rest w = ([], sym (append-nil w.taken), Appends-nil w.held)

module _ (trace evidence : Reading) (t : TraceValue) (says : OfWhole trace (λ a. trace_of true a ≡ Ok t)) where
  pub refused_evidence : (f : EvidenceFault) → OfInput evidence (λ b. RefusesEvidenceFor t b f)
      → OfWhole trace (λ a. OfInput evidence (λ b. RefusesEvidence a b f))
  refused_evidence f h =
      of_whole-map trace (λ a. trace_of true a ≡ Ok t) (λ a. OfInput evidence (λ b. RefusesEvidence a b f))
      (λ a is. of_input-map evidence (λ b. RefusesEvidenceFor t b f) (λ b. RefusesEvidence a b f) (λ b by. (t, is, by))
      h) says

  pub cut_evidence : (f : EvidenceFault) → OfBytes evidence (λ b. evidence_of t.entries false b ≡ Err f)
      → OfWhole trace (λ a. OfBytes evidence (λ b. CutsEvidence a b f))
  cut_evidence f h =
      of_whole-map trace (λ a. trace_of true a ≡ Ok t) (λ a. OfBytes evidence (λ b. CutsEvidence a b f))
      (λ a is. of_bytes-map evidence (λ b. evidence_of t.entries false b ≡ Err f) (λ b. CutsEvidence a b f)
      (λ b by. (t, is, by)) h) says

  -- what the bytes of both say, where they are a trace and evidence for it
  pub on_both : (P : List ℕ → List ℕ → Type 0) (given : List (Option (List StepValue)))
      → OfWhole evidence (λ b. evidence_of t.entries true b ≡ Ok given)
      → ((a b : List ℕ) → trace_of true a ≡ Ok t → evidence_of t.entries true b ≡ Ok given → P a b)
      → OfBoth trace evidence P
  on_both P given h f =
      of_whole-map trace (λ a. trace_of true a ≡ Ok t) (λ a. OfWhole evidence (λ b. P a b))
      (λ a is. of_whole-map evidence (λ b. evidence_of t.entries true b ≡ Ok given) (λ b. P a b) (λ b by. f a b is by)
      h) says

-- a fault of reading is of the reader that failed, or of no device
pub devices_of_reading : (e : AuditFault) (input trace evidence out : Type 0)
    → IsOneOf (kind.trace ∷ kind.evidence ∷ kind.memory ∷ []) e
    → ((f : TraceFault) → e ≡ faults.Trace f → f.cause ≡ causes.Read → trace)
    → ((f : EvidenceFault) → e ≡ faults.Evidence f → f.cause ≡ evidence_causes.Read → evidence)
    → BlamesOnly input trace evidence out e
devices_of_reading (faults.Trace f) input trace evidence out of by_trace by_evidence = by_trace f refl
devices_of_reading (faults.Evidence f) input trace evidence out of by_trace by_evidence = by_evidence f refl
devices_of_reading faults.OutOfMemory input trace evidence out of by_trace by_evidence = tt
devices_of_reading _ input trace evidence out of by_trace by_evidence = absurd (cc (of.0))

-- writing fails by the writer, and else where memory runs out
pub devices_of_writing : {V : Type 0} (r : Result V AuditFault) (input trace evidence out : Type 0)
    → IfErr r (IsOneOf (kind.write ∷ kind.memory ∷ [])) → IfErr r (λ e. IsWrite e → out)
    → IfErr r (BlamesOnly input trace evidence out)
devices_of_writing (Ok v) input trace evidence out of at = tt
devices_of_writing (Err e) input trace evidence out of at =
    of_writing (λ (x : AuditFault). (IsWrite x → out) → BlamesOnly input trace evidence out x)
    (λ write. tt) (λ n write. write tt) e of at

pub unwritten_without_device : (e : AuditFault) → BlamesNoDevice e → IsNotWrite e
unwritten_without_device (faults.Write n) h = h
unwritten_without_device _ h = tt

no_findings : (fs : List Finding) → verdict_of fs ≡ Clean → fs ≡ []
no_findings [] h = refl
no_findings (f ∷ fs) h = cc

-- a clean verdict is answered where nothing is found
pub answered_clean : {E : Type 0} (v : Verdict) (fs : List Finding) → v ≡ verdict_of fs
    → ◌≡◌ {A = Result Verdict E} (Ok v) (Ok Clean) → fs ≡ []
answered_clean v fs is h =
    let clean : v ≡ Clean = cc in
    no_findings fs (sym is ∙ clean)
