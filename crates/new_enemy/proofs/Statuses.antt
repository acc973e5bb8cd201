-- What a status tells of the answer of a call.
use Rattle.std.proofs.Common.{◌≡◌, ◌≢◌, ◌↔◌, inl, inr, ℕ, ◌≤◌, Result, Ok, Err, refl, arith, subst}
use Rattle.std.specs.Prelude.{IfOk}
use Rattle.trace_lines.specs.Values.{TraceValue}
use Rattle.trace_lines.specs.Results.{FailsBy}
use Rattle.trace_lines.specs.declared.cause.Cause.{Cause}
use Rattle.trace_lines.specs.declared.cause.Cause.TheVariants as causes
use Rattle.trace_lines.specs.declared.cause.TraceFault.{TraceFault}
use Rattle.evidence_check.specs.Reading as evidence
use Rattle.evidence_check.specs.declared.cause.EvidenceCause.{EvidenceCause}
use Rattle.evidence_check.specs.declared.cause.EvidenceCause.TheVariants as evidence_causes
use Rattle.evidence_check.specs.declared.cause.EvidenceFault.{EvidenceFault}
use Rattle.audit.specs.Audit.{BlamesOnly, BlamesNoDevice}
use Rattle.audit.specs.declared.plain.AuditFault.{AuditFault}
use Rattle.audit.specs.declared.plain.AuditFault.TheVariants as faults
use Rattle.audit.specs.declared.plain.Verdict.{Verdict}
use Rattle.audit.specs.declared.plain.Verdict.TheVariants.{Clean, Dirty}
use Rattle.new_enemy.specs.Run.{IsStatus, IsStatusOf, IsStatusDone}

-- a fault that is neither the reader's nor out of memory is that of the bytes
pub said_by_trace : (c : Cause) (f : TraceFault) (read : Result TraceValue TraceFault) → c ≢ causes.Read
    → c ≢ causes.OutOfMemory → FailsBy c f read → read ≡ Err f
said_by_trace causes.Read f read n m h = absurd (n refl)
said_by_trace causes.OutOfMemory f read n m h = absurd (m refl)
said_by_trace _ f read n m h = h

pub said_by_evidence : {Y : Type 0} (c : EvidenceCause) (f : EvidenceFault) (given : Result Y EvidenceFault)
    → c ≢ evidence_causes.Read → c ≢ evidence_causes.OutOfMemory
    → evidence.FailsBy c f given → given ≡ Err f
said_by_evidence evidence_causes.Read f given n m h = absurd (n refl)
said_by_evidence evidence_causes.OutOfMemory f given n m h = absurd (m refl)
said_by_evidence _ f given n m h = h

-- the status tells two from five
pub two_or_five : {X : Type 0} (s : ℕ) → s ≡ 2 → s ≡ 5 → X
two_or_five s two five = absurd (omega (arith, two, five))

-- ---- the status of a fault

pub status_few : (e : AuditFault) (s : ℕ) → IsStatus e s → s ≤ 5
status_few (faults.Trace f) s (inl p) = omega (arith, p.1)
status_few (faults.Trace f) s (inr p) = omega (arith, p.1)
status_few (faults.Evidence f) s (inl p) = omega (arith, p.1)
status_few (faults.Evidence f) s (inr p) = omega (arith, p.1)
status_few (faults.Write n) s is = omega (arith, is)
status_few faults.OutOfMemory s is = omega (arith, is)
status_few faults.Limits s is = omega (arith, is)
status_few faults.Joined s is = omega (arith, is)
status_few faults.Input s is = omega (arith, is)

pub three_is_limits : (e : AuditFault) (s : ℕ) → IsStatus e s → s ≡ 3 → e ≡ faults.Limits
three_is_limits (faults.Trace f) s (inl p) three = absurd (omega (arith, p.1, three))
three_is_limits (faults.Trace f) s (inr p) three = absurd (omega (arith, p.1, three))
three_is_limits (faults.Evidence f) s (inl p) three = absurd (omega (arith, p.1, three))
three_is_limits (faults.Evidence f) s (inr p) three = absurd (omega (arith, p.1, three))
three_is_limits (faults.Write n) s is three = absurd (omega (arith, is, three))
three_is_limits faults.OutOfMemory s is three = absurd (omega (arith, is, three))
three_is_limits faults.Limits s is three = refl
three_is_limits faults.Joined s is three = absurd (omega (arith, is, three))
three_is_limits faults.Input s is three = absurd (omega (arith, is, three))

-- a fault with the status of a device is one
pub failed_by : {X : Type 0} (e : AuditFault) (s : ℕ) (input trace evidence out : Type 0) → IsStatus e s → s ≡ 5
    → BlamesOnly input trace evidence out e → (input → X) → (trace → X) → (evidence → X) → (out → X) → X
failed_by (faults.Trace f) s input trace evidence out (inl p) five h i t e o = t (h p.0)
failed_by (faults.Trace f) s input trace evidence out (inr p) five h i t e o = absurd (omega (arith, five, p.1))
failed_by (faults.Evidence f) s input trace evidence out (inl p) five h i t e o = e (h p.0)
failed_by (faults.Evidence f) s input trace evidence out (inr p) five h i t e o = absurd (omega (arith, five, p.1))
failed_by (faults.Write n) s input trace evidence out is five h i t e o = o h
failed_by faults.OutOfMemory s input trace evidence out is five h i t e o = absurd (omega (arith, five, is))
failed_by faults.Limits s input trace evidence out is five h i t e o = absurd (omega (arith, five, is))
failed_by faults.Joined s input trace evidence out is five h i t e o = absurd (omega (arith, five, is))
failed_by faults.Input s input trace evidence out is five h i t e o = i h

-- and any other is of no device
pub of_no_device : (e : AuditFault) (s : ℕ) → IsStatus e s → s ≢ 5 → BlamesNoDevice e
of_no_device (faults.Trace f) s (inl p) other = absurd (other p.1)
of_no_device (faults.Trace f) s (inr p) other = p.0
of_no_device (faults.Evidence f) s (inl p) other = absurd (other p.1)
of_no_device (faults.Evidence f) s (inr p) other = p.0
of_no_device (faults.Write n) s is other = absurd (other is)
of_no_device faults.OutOfMemory s is other = tt
of_no_device faults.Limits s is other = tt
of_no_device faults.Joined s is other = tt
of_no_device faults.Input s is other = absurd (other is)

-- ---- the status of an answer

-- an answer that is no fault has a status of at most 1
abbrev pub Ends : {V : Type 0} → Result V AuditFault → ℕ → Type 0
Ends (Ok v) s = s ≤ 1
Ends (Err e) s = (2 ≤ s) × IsStatus e s

pub verdict_ends : (answer : Result Verdict AuditFault) (s : ℕ) → IsStatusOf answer s → Ends answer s
verdict_ends (Ok Clean) s zero = omega (arith, zero)
verdict_ends (Ok Dirty) s one = omega (arith, one)
verdict_ends (Err e) s h = h

pub done_ends : {V : Type 0} (answer : Result V AuditFault) (s : ℕ) → IsStatusDone answer s → Ends answer s
done_ends (Ok v) s zero = omega (arith, zero)
done_ends (Err e) s h = h

pub done_is_not_one : {V X : Type 0} (answer : Result V AuditFault) (s : ℕ) → IsStatusDone answer s → s ≡ 1 → X
done_is_not_one (Ok v) s zero one = absurd (omega (arith, zero, one))
done_is_not_one (Err e) s h one = absurd (omega (arith, h.0, one))

pub ends_few : {V : Type 0} (answer : Result V AuditFault) (s : ℕ) → Ends answer s → s ≤ 5
ends_few (Ok v) s one = omega (arith, one)
ends_few (Err e) s h = status_few e s h.1

-- status 3 says that the limits were passed
pub ends_at_limits : {V : Type 0} (answer : Result V AuditFault) (s : ℕ) → Ends answer s → s ≡ 3
    → answer ≡ Err faults.Limits
ends_at_limits (Ok v) s one three = absurd (omega (arith, one, three))
ends_at_limits (Err e) s h three =
    let is : e ≡ faults.Limits = three_is_limits e s h.1 three in
    cc (is)

limits_end : {V : Type 0} (answer : Result V AuditFault) (s : ℕ) → Ends answer s → answer ≡ Err faults.Limits
    → s ≡ 3
limits_end (Ok v) s one is = absurd (cc (is))
limits_end (Err (faults.Trace f)) s h is = absurd (cc (is))
limits_end (Err (faults.Evidence f)) s h is = absurd (cc (is))
limits_end (Err (faults.Write n)) s h is = absurd (cc (is))
limits_end (Err faults.OutOfMemory) s h is = absurd (cc (is))
limits_end (Err faults.Limits) s h is = h.1
limits_end (Err faults.Joined) s h is = absurd (cc (is))
limits_end (Err faults.Input) s h is = absurd (cc (is))

-- an audit has status 3 where it is asked beyond its limits, and nowhere else
pub three_beyond_limits : {L : Type 0} (answer : Result Verdict AuditFault) (s : ℕ) → IsStatusOf answer s
    → answer ≡ Err faults.Limits ↔ L → s ≡ 3 ↔ L
three_beyond_limits answer s told limits =
    let ends = verdict_ends answer s told in (
      λ three. limits.0 (ends_at_limits answer s ends three),
      λ beyond. limits_end answer s ends (limits.1 beyond),
    )

-- status 0 says that there is an answer
pub of_done : {V : Type 0} (answer : Result V AuditFault) (s : ℕ) (P : V → Type 0) → IsStatusDone answer s → s ≡ 0
    → IfOk answer P → (v : V) × P v
of_done (Ok v) s P st zero h = (v, h)
of_done (Err e) s P st zero h = absurd (omega (arith, st.0, zero))

-- and of an audit that its verdict is clean, as status 1 that it is dirty
pub of_clean : (answer : Result Verdict AuditFault) (s : ℕ) → IsStatusOf answer s → s ≡ 0 → answer ≡ Ok Clean
of_clean (Ok Clean) s st zero = refl
of_clean (Ok Dirty) s st zero = absurd (omega (arith, st, zero))
of_clean (Err e) s st zero = absurd (omega (arith, st.0, zero))

pub of_dirty : (answer : Result Verdict AuditFault) (s : ℕ) → IsStatusOf answer s → s ≡ 1 → answer ≡ Ok Dirty
of_dirty (Ok Clean) s st one = absurd (omega (arith, st, one))
of_dirty (Ok Dirty) s st one = refl
of_dirty (Err e) s st one = absurd (omega (arith, st.0, one))

-- what holds of an answer, by which it is
pub answer_of : {V : Type 0} (answer : Result V AuditFault) (v : V) (P : V → Type 0) → answer ≡ Ok v
    → IfOk answer P → P v
answer_of {V} answer v P is h = subst (λ (r : Result V AuditFault). IfOk r P) is h
