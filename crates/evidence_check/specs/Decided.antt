-- Whether a step is accepted can be decided.
use Rattle.std.specs.Prelude.{◌≡◌, Bool, true, false, List, [], ◌∷◌, Option, None, Some, refl}
use Rattle.std.specs.List.{AllByRecursion}
use Rattle.std.proofs.Common.{subst}
use Rattle.tuple_text.specs.Tuples.{TupleValue, FactValue}
use Rattle.namespaces.specs.Lookup.{Rule, Lookup, rule_of}
use Rattle.strata.specs.Decisions.{dec_both, dec_either, dec_same}
use Rattle.judgement.specs.Judgement.{KnownValue, Established, Refuted}
use Rattle.judgement.specs.Decided.{dec_undeclared, dec_established, dec_refuted}
use Rattle.evidence_check.specs.Accepted.{with_no, IsDisproved, IsAccepted}
use Rattle.evidence_check.specs.Steps.{StepValue, yes_step, no_step}

-- whether there is a rule, and it meets Q
pub dec_rule : (o : Option Rule) (Q : Rule → Type 0) → ((r : Rule) → Dec (Q r)) → Dec ((r : Rule) × (o ≡ Some r) × Q r)
dec_rule None Q d = no (λ t. let e : None ≡ Some t.0 = t.1 in cc)
dec_rule (Some s) Q d =
    dec_same (λ q. (s, refl, q)) (λ t. let same : t.0 ≡ s = (let e : Some s ≡ Some t.0 = t.1 in cc) in subst Q
    same t.2) (d s)

dec_disproved : (rules : Lookup) (store : List TupleValue) (known : KnownValue) (f : FactValue)
    → Dec (IsDisproved rules store known f)
dec_disproved rules store known f =
    dec_either (dec_undeclared (rule_of rules f.set))
    (dec_rule (rule_of rules f.set) (λ r. Refuted rules store known f r.expression)
    (λ r. dec_refuted rules store known f r.expression))

dec_each : (P : FactValue → Type 0) → ((f : FactValue) → Dec (P f)) → (fs : List FactValue) → Dec (AllByRecursion P fs)
dec_each P d [] = yes tt
dec_each P d (f ∷ fs) = dec_both (d f) (dec_each P d fs)

pub dec_accepted : (rules : Lookup) (store : List TupleValue) (known : KnownValue) (step : StepValue)
    → Dec (IsAccepted rules store known step)
dec_accepted rules store known (yes_step f) =
    dec_rule (rule_of rules f.set) (λ r. Established rules store known f r.expression)
    (λ r. dec_established rules store known f r.expression)
dec_accepted rules store known (no_step fs) =
    dec_each (IsDisproved rules store (with_no known fs)) (dec_disproved rules store (with_no known fs)) fs

abbrev pub decided : {A : Type 0} → Dec A → Bool
decided (yes a) = true
decided (no n) = false
