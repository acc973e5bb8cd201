-- Lives of which no two are of one touch.
use Rattle.std.proofs.Common.{◌≡◌, ℕ, zero, suc, ◌+◌, ◌<◌, Bool, true, false, cond, List, [], ◌∷◌, ◌++◌, length, map, get_or, inl, inr, refl, sym, ◌∙◌, ap, subst, Option, None, Some, arith}
use Rattle.std.specs.Cmp.{IsEquivalence}
use Rattle.std.specs.Prelude.{slice_get, nat_eq, Contains, IfSome, IsPermutation}
use Rattle.std.specs.List.{AllByRecursion, IsDistinct}
use Rattle.std.proofs.lemmas.Bool.{ne_eqb}
use Rattle.std.proofs.lemmas.Cmp.{nat_eq_equiv}
use Rattle.std.proofs.lemmas.Bool.{eqb-false}
use Rattle.std.proofs.lemmas.List.Elements.{Contains-get_or, Contains-push_cases}
use Rattle.std.proofs.lemmas.List.Folds.{list_any_none}
use Rattle.std.proofs.lemmas.List.Sorted.{IsPermutation-sym}
use Rattle.std.proofs.lemmas.Map.Keys.{IsDistinct-IsPermutation, IsDistinct-push, apart_from_distinct}
use Rattle.std.proofs.lemmas.Option.{get_or_from_slice_get, slice_get_within}
use Rattle.version_chains.specs.Commits.{Touch}
use Rattle.marks.specs.Placed.{in_front, newest_first}
use Rattle.marks.proofs.PlacedLemmas.{and-right}
use Rattle.userset_index.specs.Building.{AreMadeOf, AreOfFirst, kept}
use Rattle.userset_index.specs.Index.{AreExact, AreOnce, IsLastTouch, is_of_same}
use Rattle.userset_index.specs.Lives.{is_alive, is_sought, touches_alive}
use Rattle.userset_index.specs.declared.life.Life.{Life}
use Rattle.userset_index.proofs.ObjectLemmas.{timely_permuted}

same_touch : IsEquivalence is_of_same
same_touch = record {
  refl = λ k. nat_eq_equiv.refl k.touch;
  symm = λ k l. nat_eq_equiv.symm k.touch l.touch;
  congr = λ k l m. nat_eq_equiv.congr k.touch l.touch m.touch;
}

-- one more, of a touch that none of them is of
once_more : (lives : List Life) (l : Life) → AreOnce lives → ((m : Life) → Contains lives m → ¬ (l.touch ≡ m.touch)) → AreOnce (lives ++ l ∷ [])
once_more lives l once apart =
    IsDistinct-push same_touch lives l once
    (list_any_none (is_of_same l) lives (λ k d less. ne_eqb l.touch (get_or lives k d).touch (apart (get_or lives k d) (Contains-get_or lives k d less))))

-- of lives of which no two are of one touch, those at two indices are of two
pub apart_at : (lives : List Life) (i j : ℕ) (l m : Life) → AreOnce lives → i < j → slice_get lives i ≡ Some l → slice_get lives j ≡ Some m → ¬ (l.touch ≡ m.touch)
apart_at lives i j l m once less here there =
    eqb-false l.touch m.touch
    (let e = apart_from_distinct is_of_same lives i j l once less (slice_get_within lives j m there) in
    let first = get_or_from_slice_get lives i l l here in
    let second = get_or_from_slice_get lives j m l there in
    ap (λ (k : Life). is_of_same k m) (sym first) ∙ ap (is_of_same (get_or lives i l)) (sym second) ∙ e)

pub exact_none : (touches : List Touch) → AreExact touches []
unfolding IsDistinct
exact_none touches = record { timely = λ l there. absurd (let less = there.1 in omega (arith, less)); once = tt }

pub exact_permuted : (touches : List Touch) (lives more : List Life) → IsPermutation lives more → AreExact touches lives → AreExact touches more
exact_permuted touches lives more moved exact = record {
  timely = timely_permuted touches lives more (IsPermutation-sym lives more moved) exact.timely;
  once = IsDistinct-IsPermutation is_of_same same_touch.symm lives more moved exact.once;
}

-- ---- lives of one touch after the other

pub of_first_none : AreOfFirst 0 []
unfolding IsDistinct
of_first_none = record { once = tt; before = λ l there. absurd (let less = there.1 in omega (arith, less)) }

pub of_first_next : (n : ℕ) (lives : List Life) (o : Option Life) → AreOfFirst n lives → IfSome o (λ l. l.touch ≡ n) → AreOfFirst (n + 1) (kept lives o)
of_first_next n lives None first is = record { once = first.once; before = λ l there. let less = first.before l there in omega (arith, less) }
of_first_next n lives (Some l) first is = record {
  once = once_more lives l first.once (λ m there same. let less = first.before m there in omega (arith, less, is, same));
  before = λ m there. elim (Contains-push_cases lives l m there) [
    | inl old ↦ let less = first.before m old in omega (arith, less)
    | inr same ↦ let e : m.touch ≡ n = ap (λ (k : Life). k.touch) (sym same) ∙ is in omega (arith, e)
  ];
}

-- ---- lives that are made of others, one after the other

pub made_of_none : (lives : List Life) → AreMadeOf lives 0 []
unfolding IsDistinct
made_of_none lives = record { once = tt; of = λ m there. absurd (let less = there.1 in omega (arith, less)) }

pub made_of_next : (lives made : List Life) (n : ℕ) (l : Life) (o : Option Life) → AreOnce lives → slice_get lives n ≡ Some l → AreMadeOf lives n made
    → IfSome o (λ m. m.touch ≡ l.touch) → AreMadeOf lives (n + 1) (kept made o)
made_of_next lives made n l None once here of is = record {
  once = of.once;
  of = λ m there. let w = of.of m there in (w.0, w.1, (let less = w.2 in omega (arith, less)), w.3, w.4);
}
made_of_next lives made n l (Some new) once here of is = record {
  once = once_more made new of.once (λ m there same. let w = of.of m there in apart_at lives w.0 n w.1 l once w.2 w.3 here (sym w.4 ∙ sym same ∙ is));
  of = λ m there. elim (Contains-push_cases made new m there) [
    | inl old ↦ let w = of.of m old in (w.0, w.1, (let less = w.2 in omega (arith, less)), w.3, w.4)
    | inr same ↦ (n, l, omega arith, here, ap (λ (k : Life). k.touch) (sym same) ∙ is)
  ];
}

-- ---- what a walk gives

-- each touch that it gives is that of a life which passes
pub passed_at : (p : Life → Bool) (lives : List Life) (n i : ℕ) → Contains (map (λ (l : Life). l.touch) (newest_first p lives n)) i
    → (k : ℕ) × (l : Life) × (k < n) × (slice_get lives k ≡ Some l) × (p l ≡ true) × (l.touch ≡ i)
passed_at p lives zero i there = absurd (let less = there.1 in omega (arith, less))
passed_at p lives (suc n) i there = by_item (slice_get lives n) refl there (passed_at p lives n i)
  where
    Passes : ℕ → Type 0
    Passes m = (k : ℕ) × (l : Life) × (k < m) × (slice_get lives k ≡ Some l) × (p l ≡ true) × (l.touch ≡ i)

    before : Passes n → Passes (suc n)
    before w = (w.0, w.1, (let less = w.2 in omega (arith, less)), w.3, w.4, w.5)

    by_test : (l : Life) → slice_get lives n ≡ Some l → (b : Bool) → p l ≡ b
        → Contains (map (λ (l : Life). l.touch) (cond b (l ∷ newest_first p lives n) (newest_first p lives n))) i
        → (Contains (map (λ (l : Life). l.touch) (newest_first p lives n)) i → Passes n) → Passes (suc n)
    by_test l here false e there further = before (further there)
    by_test l here true e (zero, less, same) further = (n, l, omega arith, here, e, same)
    by_test l here true e (suc k, less, same) further = before (further (k, omega (arith, less), same))

    by_item : (o : Option Life) → slice_get lives n ≡ o → Contains (map (λ (l : Life). l.touch) (in_front p o (newest_first p lives n))) i
        → (Contains (map (λ (l : Life). l.touch) (newest_first p lives n)) i → Passes n) → Passes (suc n)
    by_item None here there further = before (further there)
    by_item (Some l) here there further = by_test l here (p l) refl there further

all_by_recursion : (P : ℕ → Type 0) (is : List ℕ) → ((i : ℕ) → Contains is i → P i) → AllByRecursion P is
all_by_recursion P [] each = tt
all_by_recursion P (i ∷ is) each = (each i (0, omega arith, refl), all_by_recursion P is (λ j there. each j (suc there.0, (let less = there.1 in omega (arith, less)), there.2)))

-- it gives each once
once_from : (p : Life → Bool) (lives : List Life) (n : ℕ) → AreOnce lives → IsDistinct nat_eq (map (λ (l : Life). l.touch) (newest_first p lives n))
unfolding IsDistinct
once_from p lives zero once = tt
once_from p lives (suc n) once = by_item (slice_get lives n) refl (once_from p lives n once)
  where
    by_test : (l : Life) → slice_get lives n ≡ Some l → (b : Bool) → IsDistinct nat_eq (map (λ (l : Life). l.touch) (newest_first p lives n))
        → IsDistinct nat_eq (map (λ (l : Life). l.touch) (cond b (l ∷ newest_first p lives n) (newest_first p lives n)))
    by_test l here false rest = rest
    by_test l here true rest = (
      all_by_recursion (λ j. nat_eq l.touch j ≡ false) (map (λ (l : Life). l.touch) (newest_first p lives n))
          (λ j there. let w = passed_at p lives n j there in ne_eqb l.touch j (λ same. apart_at lives w.0 n w.1 l once w.2 w.3 here (w.5 ∙ sym same))),
      rest,
    )

    by_item : (o : Option Life) → slice_get lives n ≡ o → IsDistinct nat_eq (map (λ (l : Life). l.touch) (newest_first p lives n))
        → IsDistinct nat_eq (map (λ (l : Life). l.touch) (in_front p o (newest_first p lives n)))
    by_item None here rest = rest
    by_item (Some l) here rest = by_test l here (p l) rest

module _ (touches : List Touch) (lives : List Life) (exact : AreExact touches lives) (mark at : ℕ) where
  pub alive_once : IsDistinct nat_eq (touches_alive mark at lives (length lives))
  alive_once = once_from (is_sought mark at) lives (length lives) exact.once

  pub alive_last : (i : ℕ) → Contains (touches_alive mark at lives (length lives)) i → (x : Touch) × IsLastTouch touches at i x
  alive_last i there =
      let w = passed_at (is_sought mark at) lives (length lives) i there in
      let l = w.1 in
      let last = exact.timely l (w.0, slice_get_within lives w.0 l w.3, get_or_from_slice_get lives w.0 l l w.3) at (and-right (nat_eq mark l.mark) (is_alive at l) w.4) in
      (last.0, subst (λ (j : ℕ). IsLastTouch touches at j last.0) w.5 last.1)
