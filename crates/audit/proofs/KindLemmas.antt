-- Faults by their kinds.
use Rattle.std.proofs.Common.{◌≡◌, ℕ, inl, inr, true, false, List, [], ◌∷◌, Result, Ok, Err, refl, subst, sym}
use Rattle.std.proofs.lemmas.Bool.{and_parts, or_cases}
use Rattle.std.proofs.lemmas.Result.{IfErr-weaker}
use Rattle.std.specs.List.{list_all}
use Rattle.std.specs.Prelude.{IfErr}
use Rattle.std.specs.Result.{IsErrAnd}
use Rattle.audit.specs.Kinds.{Kind, kind_of, is_same, is_among, IsOneOf}
use Rattle.audit.specs.Kinds as kind
use Rattle.audit.specs.declared.plain.AuditFault.{AuditFault}
use Rattle.audit.specs.declared.plain.AuditFault.TheVariants as faults

same_is : (a b : Kind) → is_same a b ≡ true → a ≡ b
same_is kind.trace kind.trace h = refl
same_is kind.evidence kind.evidence h = refl
same_is kind.write kind.write h = refl
same_is kind.memory kind.memory h = refl
same_is kind.limits kind.limits h = refl
same_is kind.joined kind.joined h = refl
same_is kind.input kind.input h = refl
same_is _ _ h = absurd (cc (h))

among_more : (ks ms : List Kind) → list_all (is_among ms) ks ≡ true → (k : Kind) → is_among ks k ≡ true
    → is_among ms k ≡ true
among_more [] ms all k h = absurd (cc (h))
among_more (x ∷ ks) ms all k h =
    let parts = and_parts (is_among ms x) (list_all (is_among ms) ks) all in
    elim (or_cases (is_same k x) (is_among ks k) h) [
      | inl same ↦ subst (λ (y : Kind). is_among ms y ≡ true) (sym (same_is k x same)) parts.0
      | inr later ↦ among_more ks ms parts.1 k later
    ]

-- of these kinds, and so of more
pub one_of-more : (ks ms : List Kind) → list_all (is_among ms) ks ≡ true → (e : AuditFault) → IsOneOf ks e
    → IsOneOf ms e
one_of-more ks ms all e h = (among_more ks ms all (kind_of e) h.0, h.1)

pub kinds-more : {V : Type 0} (ks ms : List Kind) → list_all (is_among ms) ks ≡ true → (r : Result V AuditFault)
    → IfErr r (IsOneOf ks) → IfErr r (IsOneOf ms)
kinds-more ks ms all r h = IfErr-weaker r (IsOneOf ks) (IsOneOf ms) (one_of-more ks ms all) h

-- a fault is the same, whatever would be answered else
pub same_fault : {V X : Type 0} (e f : AuditFault) → ◌≡◌ {A = Result V AuditFault} (Err e) (Err f)
    → ◌≡◌ {A = Result X AuditFault} (Err e) (Err f)
same_fault e f is = cc (is)

-- a call that hands a fault on answers it
pub handed_on : {V : Type 0} (P : Result V AuditFault → Type 0) (r : Result V AuditFault) {e : AuditFault}
    → IsErrAnd r (λ x. x ≡ e) → P (Err e) → P r
handed_on P (Ok v) is h = absurd is
handed_on P (Err x) {e} is h = subst (λ (y : AuditFault). P (Err y)) (sym is) h

-- a fault is of no other kind
pub never_kind : {X : Type 0} (ks : List Kind) (e f : AuditFault) → is_among ks (kind_of f) ≡ false → IsOneOf ks e
    → e ≡ f → X
never_kind ks e f none of is =
    let h = subst (λ (x : AuditFault). IsOneOf ks x) is of in
    absurd (cc (h.0, none))

-- a call answers no fault of another kind
pub never_answered : {V X : Type 0} (ks : List Kind) (e f : AuditFault) → is_among ks (kind_of f) ≡ false
    → IsOneOf ks e → ◌≡◌ {A = Result V AuditFault} (Err e) (Err f) → X
never_answered ks e f none of is = never_kind ks e f none of (cc (is))

-- of the faults of writing
pub of_writing : (P : AuditFault → Type 0) → P faults.OutOfMemory → ((n : ℕ) → P (faults.Write n))
    → (e : AuditFault) → IsOneOf (kind.write ∷ kind.memory ∷ []) e → P e
of_writing P memory write (faults.Write n) h = write n
of_writing P memory write faults.OutOfMemory h = memory
of_writing P memory write _ h = absurd (cc (h.0))
