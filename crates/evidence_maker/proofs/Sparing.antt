-- Steps that speak of facts that were not settled speak of none twice.
use Rattle.std.proofs.Common.{◌≡◌, List, [], ◌∷◌, ◌++◌, ◌⊎◌, inl, inr, refl, subst, sym, ◌∙◌, ap, append_assoc}
use Rattle.std.specs.Prelude.{Contains}
use Rattle.std.proofs.lemmas.List.Elements.{Contains-append_left, Contains-append_right, Contains-append_cases, Contains-push_cases}
use Rattle.tuple_text.specs.Tuples.{FactValue}
use Rattle.namespaces.specs.Lookup.{Lookup}
use Rattle.strata.proofs.Lists.{Contains-cons_cases, Contains-here, not_in_nil}
use Rattle.judgement.specs.Judgement.{KnownValue, IsUndeclared}
use Rattle.evidence_check.specs.Accepted.{nothing_known, with_yes, with_no, after_steps}
use Rattle.evidence_check.specs.Steps.{StepValue, yes_step, no_step}
use Rattle.goal_cone.specs.Cone.{AreDistinct}
use Rattle.goal_cone.proofs.Weights.{AreDistinct-append}
use Rattle.evidence_maker.specs.Settled.{IsSettled}
use Rattle.evidence_maker.specs.Saturation.{facts_of, IsSparing}

facts_of-push : (ss : List StepValue) (s : StepValue) → facts_of (ss ++ s ∷ []) ≡ facts_of ss ++ facts_of (s ∷ [])
facts_of-push [] s = refl
facts_of-push (yes_step f ∷ ss) s = ap (λ (fs : List FactValue). f ∷ fs) (facts_of-push ss s)
facts_of-push (no_step fs ∷ ss) s = ap (λ (gs : List FactValue). fs ++ gs) (facts_of-push ss s) ∙ sym (append_assoc fs (facts_of ss) (facts_of (s ∷ [])))

-- what was known or is spoken of is known
known_after : (ss : List StepValue) (known : KnownValue) (f : FactValue)
    → (Contains known.yes f ⊎ Contains known.no f) ⊎ Contains (facts_of ss) f
    → Contains (after_steps known ss).yes f ⊎ Contains (after_steps known ss).no f
known_after [] known f (inl k) = k
known_after [] known f (inr c) = absurd (not_in_nil f c)
known_after (yes_step g ∷ ss) known f h = known_after ss (with_yes known g) f (by_cases h)
  where
    here : (g ≡ f) ⊎ Contains (facts_of ss) f
        → (Contains (known.yes ++ g ∷ []) f ⊎ Contains known.no f) ⊎ Contains (facts_of ss) f
    here (inl e) = inl (inl (Contains-append_right known.yes (g ∷ []) f (subst (Contains (g ∷ [])) e (Contains-here g []))))
    here (inr c) = inr c

    by_cases : (Contains known.yes f ⊎ Contains known.no f) ⊎ Contains (g ∷ facts_of ss) f
        → (Contains (known.yes ++ g ∷ []) f ⊎ Contains known.no f) ⊎ Contains (facts_of ss) f
    by_cases (inl (inl y)) = inl (inl (Contains-append_left known.yes (g ∷ []) f y))
    by_cases (inl (inr n)) = inl (inr n)
    by_cases (inr c) = here (Contains-cons_cases g (facts_of ss) f c)
known_after (no_step gs ∷ ss) known f h = known_after ss (with_no known gs) f (by_cases h)
  where
    here : Contains gs f ⊎ Contains (facts_of ss) f
        → (Contains known.yes f ⊎ Contains (known.no ++ gs) f) ⊎ Contains (facts_of ss) f
    here (inl c) = inl (inr (Contains-append_right known.no gs f c))
    here (inr c) = inr c

    by_cases : (Contains known.yes f ⊎ Contains known.no f) ⊎ Contains (gs ++ facts_of ss) f
        → (Contains known.yes f ⊎ Contains (known.no ++ gs) f) ⊎ Contains (facts_of ss) f
    by_cases (inl (inl y)) = inl (inl y)
    by_cases (inl (inr n)) = inl (inr (Contains-append_left known.no gs f n))
    by_cases (inr c) = here (Contains-append_cases gs (facts_of ss) f c)

-- what is known after steps was known, or they speak of it
known_before : (ss : List StepValue) (known : KnownValue) (f : FactValue)
    → Contains (after_steps known ss).yes f ⊎ Contains (after_steps known ss).no f
    → (Contains known.yes f ⊎ Contains known.no f) ⊎ Contains (facts_of ss) f
known_before [] known f k = inl k
known_before (yes_step g ∷ ss) known f k = by_cases (known_before ss (with_yes known g) f k)
  where
    before : Contains known.yes f ⊎ (g ≡ f) → (Contains known.yes f ⊎ Contains known.no f) ⊎ Contains (g ∷ facts_of ss) f
    before (inl y) = inl (inl y)
    before (inr e) = inr (subst (Contains (g ∷ facts_of ss)) e (Contains-here g (facts_of ss)))

    by_cases : (Contains (known.yes ++ g ∷ []) f ⊎ Contains known.no f) ⊎ Contains (facts_of ss) f
        → (Contains known.yes f ⊎ Contains known.no f) ⊎ Contains (g ∷ facts_of ss) f
    by_cases (inl (inl y)) = before (Contains-push_cases known.yes g f y)
    by_cases (inl (inr n)) = inl (inr n)
    by_cases (inr c) = inr (Contains-append_right (g ∷ []) (facts_of ss) f c)
known_before (no_step gs ∷ ss) known f k = by_cases (known_before ss (with_no known gs) f k)
  where
    before : Contains known.no f ⊎ Contains gs f → (Contains known.yes f ⊎ Contains known.no f) ⊎ Contains (gs ++ facts_of ss) f
    before (inl n) = inl (inr n)
    before (inr c) = inr (Contains-append_left gs (facts_of ss) f c)

    by_cases : (Contains known.yes f ⊎ Contains (known.no ++ gs) f) ⊎ Contains (facts_of ss) f
        → (Contains known.yes f ⊎ Contains known.no f) ⊎ Contains (gs ++ facts_of ss) f
    by_cases (inl (inl y)) = inl (inl y)
    by_cases (inl (inr n)) = before (Contains-append_cases known.no gs f n)
    by_cases (inr c) = inr (Contains-append_right gs (facts_of ss) f c)

-- of a declared fact that is settled from nothing, steps speak
pub spoken_of : (rules : Lookup) (ss : List StepValue) (f : FactValue) → ¬ IsUndeclared rules f.set
    → IsSettled rules (after_steps nothing_known ss) f → Contains (facts_of ss) f
spoken_of rules ss f declared settled = by_cases settled
  where
    of_known : (Contains nothing_known.yes f ⊎ Contains nothing_known.no f) ⊎ Contains (facts_of ss) f → Contains (facts_of ss) f
    of_known (inl (inl y)) = absurd (not_in_nil f y)
    of_known (inl (inr n)) = absurd (not_in_nil f n)
    of_known (inr c) = c

    by_cases : IsSettled rules (after_steps nothing_known ss) f → Contains (facts_of ss) f
    by_cases (inl y) = of_known (known_before ss nothing_known f (inl y))
    by_cases (inr (inl u)) = absurd (declared u)
    by_cases (inr (inr n)) = of_known (known_before ss nothing_known f (inr n))

-- a fact that is not settled is not spoken of
not_spoken : (rules : Lookup) (ss : List StepValue) (f : FactValue) → ¬ IsSettled rules (after_steps nothing_known ss) f → ¬ Contains (facts_of ss) f
not_spoken rules ss f unsettled c = by_cases (known_after ss nothing_known f (inr c))
  where
    by_cases : Contains (after_steps nothing_known ss).yes f ⊎ Contains (after_steps nothing_known ss).no f → ⊥
    by_cases (inl y) = unsettled (inl y)
    by_cases (inr n) = unsettled (inr (inr n))

module _ (rules : Lookup) (C : List FactValue) (ss : List StepValue) (sparing : IsSparing C ss) where
  -- one more step, of facts of C that are not settled
  pub sparing_push : (s : StepValue) → ¬ (s ≡ no_step []) → AreDistinct (facts_of (s ∷ []))
      → ((f : FactValue) → Contains (facts_of (s ∷ [])) f → Contains C f × (¬ IsSettled rules (after_steps nothing_known ss) f))
      → IsSparing C (ss ++ s ∷ [])
  sparing_push s some once new = record {
    inside = λ f c. by_cases f (Contains-append_cases (facts_of ss) (facts_of (s ∷ [])) f (subst (λ (fs : List FactValue). Contains fs f) (facts_of-push ss s) c));
    distinct = subst AreDistinct (sym (facts_of-push ss s))
        (AreDistinct-append (facts_of ss) (facts_of (s ∷ [])) sparing.distinct once (λ f c d. not_spoken rules ss f (new f d).1 c));
    filled = λ c. elim (Contains-push_cases ss s (no_step []) c) [ inl d ↦ sparing.filled d | inr e ↦ some e ];
  }
    where
      by_cases : (f : FactValue) → Contains (facts_of ss) f ⊎ Contains (facts_of (s ∷ [])) f → Contains C f
      by_cases f (inl c) = sparing.inside f c
      by_cases f (inr d) = (new f d).0
