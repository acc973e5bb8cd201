-- Distinct members of a list weigh no more than the list.
use Rattle.std.proofs.Common.{◌≡◌, ℕ, ◌+◌, ◌≤◌, List, [], ◌∷◌, ◌++◌, length, ◌⊎◌, inl, inr, subst, sym, arith}
use Rattle.std.specs.Prelude.{Contains, sum_by}
use Rattle.std.proofs.lemmas.List.Sums.{sum_by-cons}
use Rattle.std.proofs.lemmas.List.Elements.{Contains-append_cases}
use Rattle.strata.proofs.Lists.{Contains-cons_cases, Contains-here, Contains-there, not_in_nil}
use Rattle.goal_cone.specs.Cone.{AreDistinct}

-- the list without one of its members weighs less by that member's weight
taken_out : {X : Type 0} (w : X → ℕ) (ys : List X) (x : X) → Contains ys x
    → (zs : List X) × (w x + sum_by w zs ≡ sum_by w ys) × ((y : X) → Contains ys y → (x ≡ y) ⊎ Contains zs y)
taken_out {X} w [] x c = absurd (not_in_nil x c)
taken_out {X} w (y ∷ ys) x c = by_cases (taken_out w ys x) (Contains-cons_cases y ys x c)
  where
    by_cases : (Contains ys x → (zs : List X) × (w x + sum_by w zs ≡ sum_by w ys) × ((g : X) → Contains ys g → (x ≡ g) ⊎ Contains zs g))
        → (y ≡ x) ⊎ Contains ys x
        → (zs : List X) × (w x + sum_by w zs ≡ sum_by w (y ∷ ys)) × ((g : X) → Contains (y ∷ ys) g → (x ≡ g) ⊎ Contains zs g)
    by_cases further (inl e) = (
      ys,
      subst (λ (z : X). w z + sum_by w ys ≡ sum_by w (y ∷ ys)) e (sym (sum_by-cons w y ys)),
      λ g d. subst (λ (z : X). (z ≡ g) ⊎ Contains ys g) e (Contains-cons_cases y ys g d),
    )
    by_cases further (inr d) = let t = further d in (
      y ∷ t.0,
      (let e : w x + sum_by w t.0 ≡ sum_by w ys = t.1 in omega (arith, sum_by-cons w y ys, sum_by-cons w y t.0)),
      λ g i. elim (Contains-cons_cases y ys g i) [
        | inl e ↦ inr (subst (Contains (y ∷ t.0)) e (Contains-here y t.0))
        | inr j ↦ elim (t.2 g j) [ inl e ↦ inl e | inr k ↦ inr (Contains-there y t.0 g k) ]
      ],
    )

-- distinct things weigh no more than a list in which they all lie
pub no_heavier : {X : Type 0} (w : X → ℕ) (fs gs : List X) → AreDistinct fs → ((f : X) → Contains fs f → Contains gs f) → sum_by w fs ≤ sum_by w gs
no_heavier {X} w [] gs once inside = omega arith
no_heavier {X} w (f ∷ fs) gs once inside =
    let t = taken_out w gs f (inside f (Contains-here f fs)) in
    let rest : sum_by w fs ≤ sum_by w t.0 =
    no_heavier w fs t.0 once.1 (λ g c. other t.0 g c (t.2 g (inside g (Contains-there f fs g c)))) in
    let e : w f + sum_by w t.0 ≡ sum_by w gs = t.1 in
    omega (arith, sum_by-cons w f fs)
  where
    other : (zs : List X) (g : X) → Contains fs g → (f ≡ g) ⊎ Contains zs g → Contains zs g
    other zs g c (inl e) = absurd (once.0 (subst (Contains fs) (sym e) c))
    other zs g c (inr d) = d

sum_by-ones : {X : Type 0} (xs : List X) → sum_by (λ _. 1) xs ≡ length xs
sum_by-ones [] = omega arith
sum_by-ones {X} (x ∷ xs) = let e = sum_by-ones xs in let f = sum_by-cons (λ (_ : X). 1) x xs in omega arith

-- nor are they more
pub no_longer : {X : Type 0} (xs ys : List X) → AreDistinct xs → ((x : X) → Contains xs x → Contains ys x) → length xs ≤ length ys
no_longer {X} xs ys once inside =
    let le = no_heavier (λ (_ : X). 1) xs ys once inside in
    let e = sum_by-ones xs in
    let f = sum_by-ones ys in
    omega arith

pub AreDistinct-append : {X : Type 0} (fs gs : List X) → AreDistinct fs → AreDistinct gs → ((f : X) → Contains fs f → ¬ Contains gs f) → AreDistinct (fs ++ gs)
AreDistinct-append {X} [] gs once more apart = more
AreDistinct-append {X} (f ∷ fs) gs once more apart = (
  λ c. elim (Contains-append_cases fs gs f c) [ inl d ↦ once.0 d | inr d ↦ apart f (Contains-here f fs) d ],
  AreDistinct-append fs gs once.1 more (λ g c. apart g (Contains-there f fs g c)),
)
