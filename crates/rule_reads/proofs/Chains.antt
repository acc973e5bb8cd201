-- Going over the places that have one mark, at each of which something holds of the item.
use Rattle.std.proofs.Common.{◌≡◌, ℕ, zero, suc, ◌<◌, nat_eq, nat_lt, List, [], ◌∷◌, length, Bool, true, false, cond, ◌||◌, Some, ◌⊎◌, inl, inr, refl, sym, ap, ◌∙◌, subst, arith}
use Rattle.std.specs.Prelude.{Contains, slice_get}
use Rattle.std.specs.List.{list_any}
use Rattle.std.proofs.lemmas.Bool.{eqb-true, eq-eqb}
use Rattle.std.proofs.lemmas.List.{map-id}
use Rattle.std.proofs.lemmas.Bool.Decides.{nat_tests}
use Rattle.std.proofs.lemmas.Option.{slice_get_within}
use Rattle.rewrites.proofs.Names.{by_bool, clash}
use Rattle.strata.proofs.Lists.{Contains-cons_cases, Contains-here, Contains-there, not_in_nil}
use Rattle.marks.specs.Placed.{indices_of, last_place, passes}
use Rattle.marks.proofs.LeftLemmas.{left_first}
use Rattle.marks.proofs.PlacedLemmas.{at_last_place}
use Rattle.rule_reads.specs.Reads.{EachMarked}

pub member : {X : Type 0} (xs : List X) (i : ℕ) (x : X) → slice_get xs i ≡ Some x → Contains xs x
member [] i x h = cc
member (y ∷ ys) zero x h = let there : Some y ≡ Some x = h in let e : y ≡ x = cc in subst (Contains (y ∷ ys)) e (Contains-here y ys)
member (y ∷ ys) (suc i) x h = Contains-there y ys x (member ys i x h)

pub place_in : {X : Type 0} (xs : List X) (x : X) → Contains xs x → (i : ℕ) × (slice_get xs i ≡ Some x)
place_in [] x c = absurd (not_in_nil x c)
place_in {X} (y ∷ ys) x c = by (place_in ys x) (Contains-cons_cases y ys x c)
  where
    by : (Contains ys x → (i : ℕ) × (slice_get ys i ≡ Some x)) → (y ≡ x) ⊎ Contains ys x → (i : ℕ) × (slice_get (y ∷ ys) i ≡ Some x)
    by step (inl e) = (0, ap (λ (z : X). Some z) e)
    by step (inr k) = let further = step k in (suc further.0, further.1)

at_or_below : (i n : ℕ) → i < suc n → (i < n) ⊎ (i ≡ n)
at_or_below i n less = by_bool (nat_lt i n) (λ t. inl (grind (arith, nat_tests))) (λ f. inr (grind (arith, nat_tests)))

module _ (marks : List ℕ) (mark : ℕ) where
  reach : (i n : ℕ) → slice_get marks i ≡ Some mark → i < n → i < last_place (nat_eq mark) marks n
  reach i zero at less = absurd (omega (arith, less))
  reach i (suc n) at less = by (passes (nat_eq mark) (slice_get marks n)) refl (reach i n at) (at_or_below i n less)
    where
      by : (b : Bool) → passes (nat_eq mark) (slice_get marks n) ≡ b → (i < n → i < last_place (nat_eq mark) marks n) → (i < n) ⊎ (i ≡ n)
          → i < cond b (suc n) (last_place (nat_eq mark) marks n)
      by true is before place = less
      by false is before (inl k) = before k
      by false is before (inr e) =
          let here : passes (nat_eq mark) (slice_get marks n) ≡ true =
          ap (λ (j : ℕ). passes (nat_eq mark) (slice_get marks j)) (sym e) ∙ ap (passes (nat_eq mark)) at ∙ eq-eqb mark mark refl in
          clash (passes (nat_eq mark) (slice_get marks n)) here is

  pub none_marked : (place : ℕ) → place ≡ last_place (nat_eq mark) marks (length marks) → place ≡ 0 → ¬ Contains marks mark
  none_marked place is none c =
      let at = place_in marks mark c in
      let there = reach at.0 (length marks) at.1 (slice_get_within marks at.0 mark at.1) in
      omega (arith, there, is, none)

  pub some_marked : (m : ℕ) → suc m ≡ last_place (nat_eq mark) marks (length marks) → Contains marks mark
  some_marked m is =
      let w = at_last_place (nat_eq mark) marks (length marks) m (sym is) in
      member marks m mark (w.1 ∙ ap (λ (k : ℕ). Some k) (sym (eqb-true mark w.0 w.2)))

  module _ {X : Type 0} (P : X → Type 0) (xs : List X) where
    -- of each item with the mark P holds, or its place is left to go over
    abbrev pub IsLeftOrHolds : List ℕ → Type 0
    IsLeftOrHolds left = (i : ℕ) (x : X) → slice_get marks i ≡ Some mark → slice_get xs i ≡ Some x → (list_any (nat_eq i) left ≡ true) ⊎ P x

    pub left_start : IsLeftOrHolds (indices_of mark marks (length marks))
    left_start i x at there =
        let left = left_first (λ m. m) mark (nat_eq mark) (λ m h. eqb-true mark m h) marks marks (sym (map-id marks)) in
        inl (left.all i mark at (eq-eqb mark mark refl))

    -- P holds of what stands at the next one
    pub left_step : (m : ℕ) (left : List ℕ) (x : X) → slice_get xs m ≡ Some x → P x → IsLeftOrHolds (m ∷ left) → IsLeftOrHolds left
    left_step m left x here holds was i y at there = by (nat_eq i m) refl (was i y at there)
      where
        by : (b : Bool) → nat_eq i m ≡ b → ((b || list_any (nat_eq i) left) ≡ true) ⊎ P y → (list_any (nat_eq i) left ≡ true) ⊎ P y
        by b is (inr done) = inr done
        by true is (inl among) =
            let same : Some x ≡ Some y = sym here ∙ ap (slice_get xs) (sym (eqb-true i m is)) ∙ there in
            let one : x ≡ y = cc in
            inr (subst P one holds)
        by false is (inl among) = inl among

    pub left_end : IsLeftOrHolds [] → EachMarked marks mark xs P
    left_end was i x at there = by (was i x at there)
      where
        by : (list_any {X = ℕ} (nat_eq i) [] ≡ true) ⊎ P x → P x
        by (inl among) = absurd (let no : false ≡ true = among in cc)
        by (inr done) = done
