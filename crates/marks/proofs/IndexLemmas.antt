-- The indices at which a mark stands, the last first.
use Rattle.std.proofs.Common.{◌≡◌, ℕ, zero, suc, ◌-◌, ◌<◌, Bool, true, false, cond, List, ◌∷◌, refl, sym, ◌∙◌, ap, subst, Some, arith, nat_eq}
use Rattle.std.specs.Prelude.{slice_get}
use Rattle.std.proofs.lemmas.Bool.{eqb-true}
use Rattle.marks.specs.Placed.{indices_of, last_place, passes, IsLinkedPlace}
use Rattle.marks.proofs.WalkLemmas.{linked_item, linked_older}

module _ (mark : ℕ) (marks : List ℕ) where
  -- none stands between a place and the last one with the mark before it
  indices_of-through : (n : ℕ) → indices_of mark marks n ≡ indices_of mark marks (last_place (nat_eq mark) marks n)
  indices_of-through zero = refl
  indices_of-through (suc n) = pick (passes (nat_eq mark) (slice_get marks n)) refl (indices_of-through n)
    where
      pick : (b : Bool) → passes (nat_eq mark) (slice_get marks n) ≡ b → indices_of mark marks n ≡ indices_of mark marks (last_place (nat_eq mark) marks n)
          → cond b (n ∷ indices_of mark marks n) (indices_of mark marks n) ≡ indices_of mark marks (cond b (suc n) (last_place (nat_eq mark) marks n))
      pick true is before = ap (λ (v : Bool). cond v (n ∷ indices_of mark marks n) (indices_of mark marks n)) (sym is)
      pick false is before = before

  pub indices_from : (place n : ℕ) → place ≡ last_place (nat_eq mark) marks n → indices_of mark marks place ≡ indices_of mark marks n
  indices_from place n is = sym (indices_of-through n ∙ ap (indices_of mark marks) (sym is))

  -- a step of a walk
  module _ (place older : ℕ) (on : IsLinkedPlace (nat_eq mark) marks place) (some : 0 < place)
      (link : (n : ℕ) → slice_get marks (place - 1) ≡ Some n → older ≡ last_place (nat_eq n) marks (place - 1)) where
    next : place ≡ suc (place - 1)
    next = omega (arith, some)

    here : IsLinkedPlace (nat_eq mark) marks (suc (place - 1))
    here = subst (IsLinkedPlace (nat_eq mark) marks) next on

    at : slice_get marks (place - 1) ≡ Some mark
    at = let w = linked_item (nat_eq mark) marks (place - 1) here in w.1 ∙ ap Some (sym (eqb-true mark w.0 w.2))

    pub walked_on : IsLinkedPlace (nat_eq mark) marks older
    walked_on = linked_older (nat_eq mark) marks (place - 1) older here (link mark at)

    pub walked_over : indices_of mark marks place ≡ (place - 1) ∷ indices_of mark marks older
    walked_over =
        let w = linked_item (nat_eq mark) marks (place - 1) here in
        let is : passes (nat_eq mark) (slice_get marks (place - 1)) ≡ true = ap (passes (nat_eq mark)) w.1 ∙ w.2 in
        ap (indices_of mark marks) next
        ∙ ap (λ (v : Bool). cond v ((place - 1) ∷ indices_of mark marks (place - 1)) (indices_of mark marks (place - 1))) is
        ∙ ap (λ (is : List ℕ). (place - 1) ∷ is) (sym (indices_from older (place - 1) (link mark at)))
