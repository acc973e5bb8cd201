-- What is left over of a stratum is refuted, all at once.
use Rattle.std.proofs.Common.{◌≡◌, List, Option, None, Some, ◌⊎◌, inl, inr, refl}
use Rattle.std.specs.Prelude.{Contains}
use Rattle.std.proofs.lemmas.List.Elements.{Contains-append_right, Contains-append_cases}
use Rattle.tuple_text.specs.Tuples.{TupleValue, FactValue}
use Rattle.namespaces.specs.Lookup.{Rule, Lookup, rule_of}
use Rattle.strata.proofs.Premises.{each_premise-map}
use Rattle.judgement.specs.Judgement.{KnownValue, Established, Refuted}
use Rattle.evidence_check.specs.Accepted.{with_no, IsDisproved, IsAccepted}
use Rattle.evidence_check.specs.Growing.{KeepsYes, KeepsBoth}
use Rattle.evidence_check.specs.Steps.{no_step}
use Rattle.evidence_check.proofs.Growing.{all_of_contained, with_no-grows}
use Rattle.evidence_maker.specs.Own.{HasOwnRelations}
use Rattle.evidence_maker.specs.Settled.{IsSettled}
use Rattle.evidence_maker.specs.Saturation.{IsLeftOver}
use Rattle.evidence_maker.proofs.Kept.{established_kept, settled_kept}
use Rattle.evidence_maker.proofs.Settling.{settling}

module _ (rules : Lookup) (store : List TupleValue) (known : KnownValue) (R : List FactValue)
    (own : HasOwnRelations rules) (left : IsLeftOver rules store known R) where
  -- a premise that is settled is known no by R alone nowhere
  kept : (p : FactValue) → IsSettled rules known p → KeepsBoth (with_no known R) known p
  kept p s = (λ y. y, λ c. by_cases (Contains-append_cases known.no R p c))
    where
      by_cases : Contains known.no p ⊎ Contains R p → Contains known.no p
      by_cases (inl c) = c
      by_cases (inr c) = absurd (left.unsettled p c s)

  with_left_over : (p : FactValue) → IsSettled rules known p ⊎ Contains R p → IsSettled rules (with_no known R) p
  with_left_over p (inl s) = settled_kept rules store known (with_no known R) (with_no-grows known R) p s
  with_left_over p (inr c) = inr (inr (Contains-append_right known.no R p c))

  disproved : (f : FactValue) → Contains R f → (o : Option Rule) → rule_of rules f.set ≡ o → IsDisproved rules store (with_no known R) f
  disproved f c None e = inl e
  disproved f c (Some r) e = by_cases
      (settling rules store (with_no known R) f r.expression
      (each_premise-map store (λ p. IsSettled rules known p ⊎ Contains R p) (IsSettled rules known)
      (IsSettled rules (with_no known R)) (IsSettled rules (with_no known R))
      with_left_over (λ p s. with_left_over p (inl s)) f r.expression (left.premises f c r e))
      (own f.set r e))
    where
      back : Established rules store (with_no known R) f r.expression → Established rules store known f r.expression
      back =
          established_kept rules store (with_no known R) known f r.expression
          (each_premise-map store (λ p. IsSettled rules known p ⊎ Contains R p) (IsSettled rules known)
          (KeepsYes (with_no known R) known) (KeepsBoth (with_no known R) known)
          (λ p _ y. y) kept f r.expression (left.premises f c r e))

      by_cases : Established rules store (with_no known R) f r.expression ⊎ Refuted rules store (with_no known R) f r.expression
          → IsDisproved rules store (with_no known R) f
      by_cases (inl d) = absurd (left.unproved f c (r, e, back d))
      by_cases (inr d) = inr (r, e, d)

  pub left_over_law : IsAccepted rules store known (no_step R)
  left_over_law =
      all_of_contained (IsDisproved rules store (with_no known R)) R (λ f c. disproved f c (rule_of rules f.set) refl)
