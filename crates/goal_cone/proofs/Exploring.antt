-- A search for the cone finds it.
use Rattle.std.proofs.Common.{◌≡◌, List, [], ◌∷◌, ◌++◌, ◌⊎◌, inl, inr, subst}
use Rattle.std.specs.Prelude.{Contains}
use Rattle.std.proofs.lemmas.List.Elements.{Contains-append_left, Contains-append_cases}
use Rattle.tuple_text.specs.Tuples.{TupleValue, FactValue}
use Rattle.namespaces.specs.Lookup.{Lookup}
use Rattle.strata.proofs.Lists.{Contains-cons_cases, Contains-here, not_in_nil}
use Rattle.strata.proofs.Premises.{each_premise-map}
use Rattle.goal_cone.specs.Cone.{IsMet, HasPremisesOf, IsNeeded, IsCone, IsExploring, IsPremise, LosesOnly}
use Rattle.goal_cone.proofs.PremiseLemmas.{each_premise-at}

module _ (rules : Lookup) (store : List TupleValue) (goal : FactValue) where
  pub exploring_start : IsExploring rules store goal (goal ∷ []) (goal ∷ [])
  exploring_start = record {
    holds_goal = Contains-here goal [];
    least = λ f c D holds _. elim (Contains-cons_cases goal [] f c) [ inl e ↦ subst (Contains D) e holds | inr h ↦ absurd (not_in_nil f h) ];
    explored = λ f c. inl c;
  }

  -- a premise of a needed fact is needed
  pub premise_needed : (f p : FactValue) → IsNeeded rules store goal f → IsPremise rules store f p → IsNeeded rules store goal p
  premise_needed f p needed premise D holds closed =
      met (each_premise-at (IsMet rules D p) store (IsMet rules D) (IsMet rules D) (λ q. q ≡ p) (λ q. q ≡ p)
      (λ q m e. subst (IsMet rules D) e m) (λ q m e. subst (IsMet rules D) e m) f premise.1.0.expression
      (closed f (needed D holds closed) premise.1.0 premise.1.1) premise.1.2)
    where
      met : IsMet rules D p → Contains D p
      met (inl u) = absurd (premise.0 u)
      met (inr c) = c

  more_met : (seen more : List FactValue) (f : FactValue) → HasPremisesOf rules store seen f → HasPremisesOf rules store (seen ++ more) f
  more_met seen more f h r e =
      each_premise-map store (IsMet rules seen) (IsMet rules seen) (IsMet rules (seen ++ more)) (IsMet rules (seen ++ more)) more_of more_of f r.expression (h r e)
    where
      more_of : (p : FactValue) → IsMet rules seen p → IsMet rules (seen ++ more) p
      more_of p (inl u) = inl u
      more_of p (inr c) = inr (Contains-append_left seen more p c)

  pub exploring_step : (seen todo : List FactValue) → IsExploring rules store goal seen todo
      → (f : FactValue) → Contains seen f → (more later : List FactValue)
      → ((p : FactValue) → Contains more p → IsPremise rules store f p × Contains later p)
      → HasPremisesOf rules store (seen ++ more) f → LosesOnly f todo later
      → IsExploring rules store goal (seen ++ more) later
  exploring_step seen todo h f c more later new met loses = record {
    holds_goal = Contains-append_left seen more goal h.holds_goal;
    least = λ g d. needed g (Contains-append_cases seen more g d);
    explored = λ g d. explored g (Contains-append_cases seen more g d);
  }
    where
      needed : (g : FactValue) → Contains seen g ⊎ Contains more g → IsNeeded rules store goal g
      needed g (inl d) = h.least g d
      needed g (inr d) = premise_needed f g (h.least f c) (new g d).0

      still : (g : FactValue) → (f ≡ g) ⊎ Contains later g → Contains later g ⊎ HasPremisesOf rules store (seen ++ more) g
      still g (inl e) = inr (subst (HasPremisesOf rules store (seen ++ more)) e met)
      still g (inr d) = inl d

      seen_before : (g : FactValue) → Contains todo g ⊎ HasPremisesOf rules store seen g → Contains later g ⊎ HasPremisesOf rules store (seen ++ more) g
      seen_before g (inl d) = still g (loses g d)
      seen_before g (inr p) = inr (more_met seen more g p)

      explored : (g : FactValue) → Contains seen g ⊎ Contains more g → Contains later g ⊎ HasPremisesOf rules store (seen ++ more) g
      explored g (inl d) = seen_before g (h.explored g d)
      explored g (inr d) = inl (new g d).1

  pub exploring_done : (seen : List FactValue) → IsExploring rules store goal seen [] → IsCone rules store goal seen
  exploring_done seen h = record {
    holds_goal = h.holds_goal;
    premises = λ f c. elim (h.explored f c) [ inl d ↦ absurd (not_in_nil f d) | inr p ↦ p ];
    least = h.least;
  }
