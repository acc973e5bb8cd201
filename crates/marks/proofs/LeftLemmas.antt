-- Going over the indices with one mark, for an item that is wanted; and of tuples.
use Rattle.std.proofs.Common.{◌≡◌, ℕ, zero, suc, ◌<◌, ◌≤◌, Bool, true, false, cond, List, [], ◌∷◌, length, map, refl, sym, ◌∙◌, ap, subst, Some, ◌⊎◌, ◌||◌, inl, inr, arith, nat_eq}
use Rattle.std.specs.Prelude.{slice_get, option_map}
use Rattle.std.specs.List.{list_any, AllByRecursion}
use Rattle.std.proofs.lemmas.List.{length-map}
use Rattle.std.proofs.lemmas.Option.{slice_get-map, slice_get_within}
use Rattle.std.proofs.lemmas.Bool.{eqb-true, eq-eqb}
use Rattle.std.proofs.Math.Nat.{eq-or-lt_of_le}
use Rattle.tuple_text.specs.Tuples.{TupleValue}
use Rattle.tuple_text.specs.Order.{tuple_eq}
use Rattle.tuple_text.proofs.ValueLemmas.{tuple_eq-same}
use Rattle.marks.specs.Marks.{tuple_mark}
use Rattle.marks.specs.Placed.{indices_of, passes}
use Rattle.marks.proofs.PlacedLemmas.{or-second}

-- Indices are left to go over: something stands at each, and each item that is wanted at one of them.
pub record AreLeft {X : Type 0} (wanted : X → Bool) (xs : List X) (left : List ℕ) : Type 0 where
  pub within : AllByRecursion (λ i. i < length xs) left
  pub all : (i : ℕ) (x : X) → slice_get xs i ≡ Some x → wanted x ≡ true → list_any (nat_eq i) left ≡ true

module _ (mark : ℕ) (marks : List ℕ) where
  below : (m n : ℕ) → n ≤ m → AllByRecursion (λ i. i < m) (indices_of mark marks n)
  below m zero le = tt
  below m (suc n) le = pick (passes (nat_eq mark) (slice_get marks n)) (below m n (omega (arith, le)))
    where
      pick : (b : Bool) → AllByRecursion (λ i. i < m) (indices_of mark marks n) → AllByRecursion (λ i. i < m) (cond b (n ∷ indices_of mark marks n) (indices_of mark marks n))
      pick true h = (omega (arith, le), h)
      pick false h = h

  among : (n i : ℕ) → i < n → slice_get marks i ≡ Some mark → list_any (nat_eq i) (indices_of mark marks n) ≡ true
  among zero i h at = absurd (omega (arith, h))
  among (suc n) i h at = by_place (eq-or-lt_of_le (let k : i ≤ n = omega (arith, h) in k)) (λ less. among n i less at)
    where
      pick : (b : Bool) → list_any (nat_eq i) (indices_of mark marks n) ≡ true → list_any (nat_eq i) (cond b (n ∷ indices_of mark marks n) (indices_of mark marks n)) ≡ true
      pick true e = or-second (nat_eq i n) _ e
      pick false e = e

      by_place : (i ≡ n) ⊎ (i < n) → (i < n → list_any (nat_eq i) (indices_of mark marks n) ≡ true) → list_any (nat_eq i) (indices_of mark marks (suc n)) ≡ true
      by_place (inl same) before =
          let here : passes (nat_eq mark) (slice_get marks n) ≡ true = ap (passes (nat_eq mark)) (subst (λ (k : ℕ). slice_get marks k ≡ Some mark) same at) ∙ eq-eqb mark mark refl in
          rw here (ap (λ (b : Bool). b || list_any (nat_eq i) (indices_of mark marks n)) (eq-eqb i n same))
      by_place (inr less) before = pick (passes (nat_eq mark) (slice_get marks n)) (before less)

-- all with the mark that is asked for, which each item has that is wanted
pub left_first : {X : Type 0} (mark : X → ℕ) (asked : ℕ) (wanted : X → Bool) → ((x : X) → wanted x ≡ true → asked ≡ mark x) → (xs : List X) (marks : List ℕ) → marks ≡ map mark xs
    → AreLeft wanted xs (indices_of asked marks (length marks))
left_first mark asked wanted has_mark xs marks are =
    let count : length marks ≡ length xs = ap length are ∙ length-map xs mark in
    record {
      within = below asked marks (length xs) (length marks) (omega (arith, count));
      all = λ i x at w.
          let here : slice_get marks i ≡ Some asked = ap (λ (ms : List ℕ). slice_get ms i) are ∙ slice_get-map mark xs i ∙ ap (option_map mark) at ∙ ap Some (sym (has_mark x w)) in
          among asked marks (length marks) i (slice_get_within marks i asked here) here;
    }

module _ {X : Type 0} (wanted : X → Bool) (xs : List X) where
  -- what stands at the next one is not wanted
  pub left_behind : (i : ℕ) (left : List ℕ) (x : X) → slice_get xs i ≡ Some x → wanted x ≡ false → AreLeft wanted xs (i ∷ left) → AreLeft wanted xs left
  left_behind i left x here other are = record { within = are.within.1; all = λ j y at w. pick j y at w (nat_eq j i) refl (are.all j y at w) }
    where
      pick : (j : ℕ) (y : X) → slice_get xs j ≡ Some y → wanted y ≡ true → (b : Bool) → nat_eq j i ≡ b → (b || list_any (nat_eq j) left) ≡ true → list_any (nat_eq j) left ≡ true
      pick j y at w true e h =
          let same : j ≡ i = eqb-true j i e in
          let both : Some y ≡ Some x = sym at ∙ ap (slice_get xs) same ∙ here in
          let is : y ≡ x = cc in
          absurd (let no : true ≡ false = sym w ∙ ap wanted is ∙ other in cc)
      pick j y at w false e h = h

  -- none is left
  pub left_none : AreLeft wanted xs [] → (i : ℕ) (x : X) → slice_get xs i ≡ Some x → wanted x ≡ false
  left_none are i x at = by_test (wanted x) refl
    where
      by_test : (b : Bool) → wanted x ≡ b → b ≡ false
      by_test false e = refl
      by_test true e = absurd (let no = are.all i x at e in cc)

-- all with the mark of a tuple
pub tuples_left : (t : TupleValue) (tuples : List TupleValue) (named : List ℕ) → named ≡ map tuple_mark tuples → AreLeft (λ u. tuple_eq u t) tuples (indices_of (tuple_mark t) named (length named))
tuples_left t = left_first tuple_mark (tuple_mark t) (λ u. tuple_eq u t) (λ u h. ap tuple_mark (sym (tuple_eq-same u t h)))
