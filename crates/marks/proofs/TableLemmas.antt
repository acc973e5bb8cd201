-- The table in which the newest place of each mark is found.
use Rattle.std.proofs.Common.{◌≡◌, ◌≢◌, ℕ, zero, suc, ◌-◌, ◌<◌, ◌≤◌, ◌%◌, ◌^◌, Bool, true, false, ◌&&◌, ◌||◌, cond, List, [], ◌∷◌, ◌++◌, length, length-append, refl, sym, ◌∙◌, ap, subst, Option, None, Some, arith, nat_eq, eqb-true, false-eqb, eq-eqb, ◌⊎◌, inl, inr, Result, Ok, Err, OnOk, OnErr}
use Rattle.std.specs.Prelude.{slice_get, slice_set, unwrap_or, max, is_err}
use Rattle.std.specs.Option.{option_eq, option_map}
use Rattle.std.specs.Ordering.{nat_cmp, eq_by_cmp}
use Rattle.std.specs.BTreeMap.{BTreeMap, get, Updates, is_at}
use Rattle.std.specs.Cmp.{eq_by_cmp_equiv, nat_cmp_total}
use Rattle.std.proofs.lemmas.Map.Lookups.{exact_unsigned}
use Rattle.std.proofs.lemmas.Map.Views.{tells_apart}
use Rattle.std.proofs.lemmas.Option.{slice_get_within}
use Rattle.std.proofs.Math.Nat.{eq-or-lt_of_le, le-max_right}
use Rattle.marks.specs.Links.{AreProbed, IsPlaceOf, first_from, has_mark, is_of, mark_at, newest_in, place_in, probe_in, start_of, stops, tag_of}
use Rattle.marks.specs.Placed.{passes}
use Rattle.marks.specs.Slots.{place_of}
use Rattle.marks.specs.declared.slots.Slot.{Slot}
use Rattle.marks.proofs.PlacedLemmas.{and-right, length-more, length-set, slice_get-front, slice_get-next, slice_get-set}

-- what holds in any case
pub on_err : {T E P : Type 0} (r : Result T E) → P → OnErr r P
on_err (Ok x) p = tt
on_err (Err e) p = p

-- what holds where there is no error
pub from_ok : {T E P : Type 0} (r : Result T E) → is_err r ≡ false → OnOk r P → P
from_ok (Ok x) no_error p = p
from_ok (Err e) no_error p = absurd cc

-- a slot with the tag 0 has no place, where free ones have none
pub free_has_none : (o : Option Slot) → ((s : Slot) → o ≡ Some s → s.tag ≡ 0 → s.place ≡ 0)
    → option_eq nat_eq (option_map (λ s. s.tag) o) (Some 0) ≡ true → place_of o ≡ 0
free_has_none None free is = refl
free_has_none (Some s) free is = free s refl (eqb-true s.tag 0 is)

-- ---- the tree of the rest

-- it finds a mark by the order of marks
pub at_mark : (a b : ℕ) → is_at (nat_cmp a) b ≡ nat_eq b a
at_mark a b = by_tests (is_at (nat_cmp a) b) (nat_eq b a) refl refl
  where
    by_tests : (p q : Bool) → is_at (nat_cmp a) b ≡ p → nat_eq b a ≡ q → p ≡ q
    by_tests true true t u = refl
    by_tests false false t u = refl
    by_tests true false t u = sym (eq-eqb b a (sym (tells_apart exact_unsigned a b t))) ∙ u
    by_tests false true t u = sym t ∙ subst (λ (m : ℕ). eq_by_cmp nat_cmp a m ≡ true) (sym (eqb-true b a u)) ((eq_by_cmp_equiv nat_cmp_total).refl a)

set_at : (newest new : BTreeMap ℕ ℕ) (mark place : ℕ) → Updates nat_cmp newest new mark (Some place) → (m : ℕ) → unwrap_or (get nat_cmp new m) 0 ≡ cond (nat_eq m mark) place (unwrap_or (get nat_cmp newest m) 0)
set_at newest new mark place updates m =
    ap (λ (o : Option ℕ). unwrap_or o 0) (updates.0 m ∙ ap (λ (b : Bool). cond b (Some place) (get nat_cmp newest m)) (at_mark mark m))
    ∙ by_test (nat_eq m mark)
  where
    by_test : (b : Bool) → unwrap_or (cond b (Some place) (get nat_cmp newest m)) 0 ≡ cond b place (unwrap_or (get nat_cmp newest m) 0)
    by_test true = refl
    by_test false = refl

-- ---- the first item that passes

nat_eq-other : (a b : ℕ) → a ≢ b → nat_eq a b ≡ false
nat_eq-other a b other = by_test (nat_eq a b) refl
  where
    by_test : (c : Bool) → nat_eq a b ≡ c → c ≡ false
    by_test false t = refl
    by_test true t = absurd (other (eqb-true a b t))

passing : {X : Type 0} (p : X → Bool) (o : Option X) → passes p o ≡ true → (x : X) × (o ≡ Some x) × (p x ≡ true)
passing p None h = absurd cc
passing p (Some x) h = (x, refl, h)

module _ {X : Type 0} (p : X → Bool) (xs : List X) where
  pub first_here : (n at : ℕ) → passes p (slice_get xs at) ≡ true → first_from p xs (suc n) at ≡ suc at
  first_here n at t = rw t refl

  pub first_further : (n at : ℕ) → passes p (slice_get xs at) ≡ false → first_from p xs (suc n) at ≡ first_from p xs n (suc at)
  first_further n at t = rw t refl

  pub first_passes : (n at i : ℕ) → first_from p xs n at ≡ suc i → passes p (slice_get xs i) ≡ true
  first_passes zero at i h = absurd cc
  first_passes (suc n) at i h = by_test (passes p (slice_get xs at)) refl h (first_passes n (suc at) i)
    where
      by_test : (b : Bool) → passes p (slice_get xs at) ≡ b → cond b (suc at) (first_from p xs n (suc at)) ≡ suc i
          → (first_from p xs n (suc at) ≡ suc i → passes p (slice_get xs i) ≡ true) → passes p (slice_get xs i) ≡ true
      by_test true t e later = let same : at ≡ i = omega (arith, e) in subst (λ (k : ℕ). passes p (slice_get xs k) ≡ true) same t
      by_test false t e later = later e

  module _ (q : X → Bool) (ys : List X) where
    pub first_same : ((j : ℕ) → passes p (slice_get xs j) ≡ passes q (slice_get ys j)) → (n at : ℕ) → first_from p xs n at ≡ first_from q ys n at
    first_same same zero at = refl
    first_same same (suc n) at =
        ap (λ (b : Bool). cond b (suc at) (first_from p xs n (suc at))) (same at)
        ∙ ap (λ (k : ℕ). cond (passes q (slice_get ys at)) (suc at) k) (first_same same n (suc at))

    -- where it is not the one that differs
    module _ (i : ℕ) (same : (j : ℕ) → j ≢ i → passes p (slice_get xs j) ≡ passes q (slice_get ys j)) (no_more : passes q (slice_get ys i) ≡ false) where
      first_kept : (n at : ℕ) → first_from p xs n at ≢ suc i → first_from q ys n at ≡ first_from p xs n at
      first_kept zero at other = refl
      first_kept (suc n) at other = by_tests (nat_eq at i) refl (passes p (slice_get xs at)) refl (first_kept n (suc at))
        where
          Later : Type 0
          Later = first_from p xs n (suc at) ≢ suc i → first_from q ys n (suc at) ≡ first_from p xs n (suc at)

          by_tests : (c : Bool) → nat_eq at i ≡ c → (b : Bool) → passes p (slice_get xs at) ≡ b → Later → first_from q ys (suc n) at ≡ first_from p xs (suc n) at
          by_tests true u true t later = absurd (other (first_here n at t ∙ ap suc (eqb-true at i u)))
          by_tests true u false t later =
              let none : passes q (slice_get ys at) ≡ false = subst (λ (k : ℕ). passes q (slice_get ys k) ≡ false) (sym (eqb-true at i u)) no_more in
              ap (λ (b : Bool). cond b (suc at) (first_from q ys n (suc at))) none
              ∙ later (λ e. other (first_further n at t ∙ e))
              ∙ sym (first_further n at t)
          by_tests false u true t later =
              ap (λ (b : Bool). cond b (suc at) (first_from q ys n (suc at))) (sym (same at (false-eqb at i (sym u))) ∙ t) ∙ sym (first_here n at t)
          by_tests false u false t later =
              ap (λ (b : Bool). cond b (suc at) (first_from q ys n (suc at))) (sym (same at (false-eqb at i (sym u))) ∙ t)
              ∙ later (λ e. other (first_further n at t ∙ e))
              ∙ sym (first_further n at t)

-- ---- where a probe ends

set_at_index : {X : Type 0} (xs : List X) (i : ℕ) (x : X) → i < length xs → slice_get (slice_set xs i x) i ≡ Some x
set_at_index [] i x h = absurd (omega (arith, h))
set_at_index (y ∷ ys) zero x h = refl
set_at_index (y ∷ ys) (suc i) x h = set_at_index ys i x (omega (arith, h))

set_else : {X : Type 0} (es : List X) (k j : ℕ) (x : X) → j ≢ k → slice_get (slice_set es k x) j ≡ slice_get es j
set_else [] k j x h = refl
set_else (y ∷ ys) zero zero x h = absurd (h refl)
set_else (y ∷ ys) zero (suc j) x h = refl
set_else (y ∷ ys) (suc k) zero x h = refl
set_else (y ∷ ys) (suc k) (suc j) x h = set_else ys k j x (λ e. h (ap suc e))

tag-some : (mark : ℕ) → nat_eq (tag_of mark) 0 ≡ false
tag-some mark = nat_eq-other (tag_of mark) 0 (λ e. let least : 1 ≤ max (mark % 2 ^ 8) 1 = le-max_right (mark % 2 ^ 8) 1 in omega (arith, e, least))

-- a slot is free where a probe ends at it, or the mark's
stopped : (marks : List ℕ) (mark : ℕ) (s : Slot) → stops marks mark s ≡ true → (s.tag ≡ 0) ⊎ (is_of marks mark s ≡ true)
stopped marks mark s h = by_test (nat_eq s.tag 0) refl h
  where
    by_test : (b : Bool) → nat_eq s.tag 0 ≡ b → (b || is_of marks mark s) ≡ true → (s.tag ≡ 0) ⊎ (is_of marks mark s ≡ true)
    by_test true t e = inl (eqb-true s.tag 0 t)
    by_test false t e = inr e

-- the slot at which the mark's probe ends
pub end_slot : (longest : ℕ) (marks : List ℕ) (slots : List Slot) (mark i : ℕ) → probe_in longest marks slots mark ≡ suc i → (s : Slot) × (slice_get slots i ≡ Some s) × (stops marks mark s ≡ true)
end_slot longest marks slots mark i ends = passing (stops marks mark) (slice_get slots i) (first_passes (stops marks mark) slots longest (start_of mark (length slots - (longest - 1))) i ends)

pub end_within : (longest : ℕ) (marks : List ℕ) (slots : List Slot) (mark end : ℕ) → end ≡ probe_in longest marks slots mark → 0 < end → end ≤ length slots
end_within longest marks slots mark zero h some = absurd (omega (arith, some))
end_within longest marks slots mark (suc i) h some = let w = end_slot longest marks slots mark i (sym h) in let within = slice_get_within slots i w.0 w.1 in omega (arith, within)

-- the mark at a place that a slot is of
one_mark : (marks : List ℕ) (place a b : ℕ) → has_mark marks place a ≡ true → has_mark marks place b ≡ true → a ≡ b
one_mark marks place a b h k =
    let v = passing (λ (n : ℕ). nat_eq n a) (mark_at marks place) h in
    let w = passing (λ (n : ℕ). nat_eq n b) (mark_at marks place) k in
    let one : v.0 ≡ w.0 = (let e : Some v.0 ≡ Some w.0 = sym v.1 ∙ w.1 in cc) in
    sym (eqb-true v.0 a v.2) ∙ one ∙ eqb-true w.0 b w.2

-- ---- other marks, with the same at the places of the slots

module _ (longest : ℕ) (marks more : List ℕ) (slots : List Slot) (rest : BTreeMap ℕ ℕ) (are : AreProbed longest marks slots rest)
    (same : (i : ℕ) (s : Slot) → slice_get slots i ≡ Some s → mark_at marks s.place ≡ mark_at more s.place) where
  mark_same : (i mark : ℕ) (s : Slot) → slice_get slots i ≡ Some s → has_mark marks s.place mark ≡ has_mark more s.place mark
  mark_same i mark s at = ap (passes (λ (n : ℕ). nat_eq n mark)) (same i s at)

  pub probe-same : (mark : ℕ) → probe_in longest marks slots mark ≡ probe_in longest more slots mark
  probe-same mark = first_same (stops marks mark) slots (stops more mark) slots (λ j. by_slot j (slice_get slots j) refl) longest (start_of mark (length slots - (longest - 1)))
    where
      by_slot : (j : ℕ) (o : Option Slot) → slice_get slots j ≡ o → passes (stops marks mark) o ≡ passes (stops more mark) o
      by_slot j None at = refl
      by_slot j (Some s) at = ap (λ (b : Bool). nat_eq s.tag 0 || (nat_eq s.tag (tag_of mark) && b)) (mark_same j mark s at)

  pub newest-same : (mark : ℕ) → newest_in longest marks slots rest mark ≡ newest_in longest more slots rest mark
  newest-same mark = ap (place_in slots rest mark) (probe-same mark)

  pub probed-same : ((i : ℕ) (s : Slot) → slice_get slots i ≡ Some s → s.place ≤ length more) → AreProbed longest more slots rest
  probed-same within = record {
    within = within;
    free = are.free;
    ends = λ i mark s at is. sym (probe-same mark) ∙ are.ends i mark s at (mark_same i mark s at ∙ is);
    apart = λ mark i end. are.apart mark i (probe-same mark ∙ end);
  }

-- with more marks
mark_at-more : (marks further : List ℕ) (place : ℕ) → place ≤ length marks → mark_at marks place ≡ mark_at (marks ++ further) place
mark_at-more marks further zero h = refl
mark_at-more marks further (suc i) h = sym (slice_get-front marks further i (omega (arith, h)))

module _ (longest : ℕ) (marks further : List ℕ) (slots : List Slot) (rest : BTreeMap ℕ ℕ) (are : AreProbed longest marks slots rest) where
  same-more : (i : ℕ) (s : Slot) → slice_get slots i ≡ Some s → mark_at marks s.place ≡ mark_at (marks ++ further) s.place
  same-more i s at = mark_at-more marks further s.place (are.within i s at)

  pub newest-more : (mark : ℕ) → newest_in longest marks slots rest mark ≡ newest_in longest (marks ++ further) slots rest mark
  newest-more = newest-same longest marks (marks ++ further) slots rest are same-more

  pub probe-more : (mark : ℕ) → probe_in longest marks slots mark ≡ probe_in longest (marks ++ further) slots mark
  probe-more = probe-same longest marks (marks ++ further) slots rest are same-more

  pub probed-more : AreProbed longest (marks ++ further) slots rest
  probed-more = probed-same longest marks (marks ++ further) slots rest are same-more (λ i s at. let within = are.within i s at in let long = length-append marks further in omega (arith, within, long))

-- with one mark less, at which no mark has its newest place
module _ (longest : ℕ) (marks : List ℕ) (last_mark : ℕ) (slots : List Slot) (rest : BTreeMap ℕ ℕ) (are : AreProbed longest (marks ++ last_mark ∷ []) slots rest)
    (past : newest_in longest (marks ++ last_mark ∷ []) slots rest last_mark ≢ suc (length marks)) where
  within-less : (i : ℕ) (s : Slot) → slice_get slots i ≡ Some s → s.place ≤ length marks
  within-less i s at = by_place (eq-or-lt_of_le (are.within i s at))
    where
      by_place : (s.place ≡ length (marks ++ last_mark ∷ [])) ⊎ (s.place < length (marks ++ last_mark ∷ [])) → s.place ≤ length marks
      by_place (inr less) = let long = length-more marks last_mark in omega (arith, less, long)
      by_place (inl last) =
          let is : s.place ≡ suc (length marks) = last ∙ length-more marks last_mark in
          let there : has_mark (marks ++ last_mark ∷ []) (suc (length marks)) last_mark ≡ true = ap (passes (λ (n : ℕ). nat_eq n last_mark)) (slice_get-next marks last_mark) ∙ eq-eqb last_mark last_mark refl in
          let has : has_mark (marks ++ last_mark ∷ []) s.place last_mark ≡ true = ap (λ (n : ℕ). has_mark (marks ++ last_mark ∷ []) n last_mark) is ∙ there in
          absurd (past (ap (place_in slots rest last_mark) (are.ends i last_mark s at has) ∙ ap place_of at ∙ is))

  same-less : (i : ℕ) (s : Slot) → slice_get slots i ≡ Some s → mark_at (marks ++ last_mark ∷ []) s.place ≡ mark_at marks s.place
  same-less i s at = sym (mark_at-more marks (last_mark ∷ []) s.place (within-less i s at))

  pub newest-less : (mark : ℕ) → newest_in longest marks slots rest mark ≡ newest_in longest (marks ++ last_mark ∷ []) slots rest mark
  newest-less mark = sym (newest-same longest (marks ++ last_mark ∷ []) marks slots rest are same-less mark)

  pub probed-less : AreProbed longest marks slots rest
  probed-less = probed-same longest (marks ++ last_mark ∷ []) marks slots rest are same-less within-less

-- ---- a mark gets a place in the slot at which its probe ends

module _ (longest : ℕ) (marks : List ℕ) (slots : List Slot) (rest : BTreeMap ℕ ℕ) (are : AreProbed longest marks slots rest)
    (mark place i : ℕ) (end : probe_in longest marks slots mark ≡ suc i) (is_place : IsPlaceOf marks mark place) where
  abbrev taken : Slot
  taken = record { tag = tag_of mark; place = place }

  abbrev new : List Slot
  new = slice_set slots i taken

  here : slice_get new i ≡ Some taken
  here = let w = end_slot longest marks slots mark i end in set_at_index slots i taken (slice_get_within slots i w.0 w.1)

  has-own : (m p : ℕ) → place ≡ p → has_mark marks p m ≡ true → m ≡ mark
  has-own m zero at h = absurd cc
  has-own m (suc j) at h =
      one_mark marks (suc j) m mark h (ap (passes (λ (n : ℕ). nat_eq n mark)) (is_place j at) ∙ eq-eqb mark mark refl)

  -- no probe of another mark ends at it
  stops-other : (m : ℕ) → m ≢ mark → stops marks m taken ≡ false
  stops-other m other = by_test (stops marks m taken) refl
    where
      by_test : (b : Bool) → stops marks m taken ≡ b → b ≡ false
      by_test false t = refl
      by_test true t = absurd (elim (stopped marks m taken t) [
        | inl free ↦ false-eqb (tag_of mark) 0 (sym (tag-some mark)) free
        | inr own ↦ other (has-own m place refl (and-right (nat_eq (tag_of mark) (tag_of m)) (has_mark marks place m) own))
      ])

  probe-new : (m : ℕ) → probe_in longest marks new m ≡ first_from (stops marks m) new longest (start_of m (length slots - (longest - 1)))
  probe-new m = ap (λ (n : ℕ). first_from (stops marks m) new longest (start_of m (n - (longest - 1)))) (length-set slots i taken)

  else_same : (m j : ℕ) → j ≢ i → passes (stops marks m) (slice_get slots j) ≡ passes (stops marks m) (slice_get new j)
  else_same m j other = ap (passes (stops marks m)) (sym (set_else slots i j taken other))

  -- a probe that did not end there
  probe-kept : (m : ℕ) → stops marks m taken ≡ false → probe_in longest marks slots m ≢ suc i → probe_in longest marks new m ≡ probe_in longest marks slots m
  probe-kept m no_more other =
      probe-new m
      ∙ first_kept (stops marks m) slots (stops marks m) new i (else_same m) (ap (passes (stops marks m)) here ∙ no_more) longest (start_of m (length slots - (longest - 1))) other

  probe-own : stops marks mark taken ≡ true → probe_in longest marks new mark ≡ suc i
  probe-own still =
      probe-new mark
      ∙ sym (first_same (stops marks mark) slots (stops marks mark) new (λ j. by_test j (nat_eq j i) refl) longest (start_of mark (length slots - (longest - 1))))
      ∙ end
    where
      by_test : (j : ℕ) (b : Bool) → nat_eq j i ≡ b → passes (stops marks mark) (slice_get slots j) ≡ passes (stops marks mark) (slice_get new j)
      by_test j false t = else_same mark j (false-eqb j i (sym t))
      by_test j true t =
          let w = end_slot longest marks slots mark i end in
          subst (λ (k : ℕ). passes (stops marks mark) (slice_get slots k) ≡ passes (stops marks mark) (slice_get new k)) (sym (eqb-true j i t))
          (ap (passes (stops marks mark)) w.1 ∙ w.2 ∙ sym (ap (passes (stops marks mark)) here ∙ still))

  -- a probe that ended there, and ends there no more, finds no place
  newest-gone : (m : ℕ) → stops marks m taken ≡ false → probe_in longest marks slots m ≡ suc i → newest_in longest marks new rest m ≡ 0
  newest-gone m no_more was = by_end (probe_in longest marks new m) refl
    where
      by_end : (e : ℕ) → probe_in longest marks new m ≡ e → place_in new rest m e ≡ 0
      by_end zero h = ap (λ (o : Option ℕ). unwrap_or o 0) (are.apart m i was)
      by_end (suc k) h =
          let w = end_slot longest marks new m k h in
          elim (slice_get-set slots i k w.0 taken w.1) [
            | inl at ↦ absurd (let e : stops marks m taken ≡ true = ap (stops marks m) at.1 ∙ w.2 in let f : true ≡ false = sym e ∙ no_more in cc)
            | inr at ↦ (elim (stopped marks m w.0 w.2) [
              | inl free ↦ ap place_of w.1 ∙ are.free k w.0 at.1 free
              | inr own ↦ absurd (let e : suc k ≡ suc i = sym (are.ends k m w.0 at.1 (and-right (nat_eq (w.0).tag (tag_of m)) (has_mark marks (w.0).place m) own)) ∙ was in at.0 (omega (arith, e)))
            ])
          ]

  -- what another mark found there
  nothing-there : (m : ℕ) → m ≢ mark → probe_in longest marks slots m ≡ suc i → newest_in longest marks slots rest m ≡ 0
  nothing-there m other was =
      let w = end_slot longest marks slots m i was in
      let v = end_slot longest marks slots mark i end in
      let one : v.0 ≡ w.0 = (let e : Some v.0 ≡ Some w.0 = sym v.1 ∙ w.1 in cc) in
      let own : stops marks mark w.0 ≡ true = ap (stops marks mark) (sym one) ∙ v.2 in
      ap (place_in slots rest m) was ∙ ap place_of w.1
      ∙ elim (stopped marks m w.0 w.2) [
        | inl free ↦ are.free i w.0 w.1 free
        | inr is ↦ (elim (stopped marks mark w.0 own) [
          | inl free ↦ are.free i w.0 w.1 free
          | inr also ↦ absurd (other (one_mark marks (w.0).place m mark (and-right (nat_eq (w.0).tag (tag_of m)) (has_mark marks (w.0).place m) is) (and-right (nat_eq (w.0).tag (tag_of mark)) (has_mark marks (w.0).place mark) also)))
        ])
      ]

  stops-own : has_mark marks place mark ≡ true → stops marks mark taken ≡ true
  stops-own has =
      ap (λ (b : Bool). b || is_of marks mark taken) (tag-some mark)
      ∙ ap (λ (b : Bool). b && has_mark marks place mark) (eq-eqb (tag_of mark) (tag_of mark) refl)
      ∙ has

  newest-own : newest_in longest marks new rest mark ≡ place
  newest-own = by_test (stops marks mark taken) refl place refl
    where
      by_test : (b : Bool) → stops marks mark taken ≡ b → (p : ℕ) → place ≡ p → newest_in longest marks new rest mark ≡ place
      by_test true t p at = ap (place_in new rest mark) (probe-own t) ∙ ap place_of here
      by_test false t zero at = newest-gone mark t end ∙ sym at
      by_test false t (suc j) at = absurd (
          let has : has_mark marks place mark ≡ true = ap (λ (n : ℕ). has_mark marks n mark) at ∙ ap (passes (λ (n : ℕ). nat_eq n mark)) (is_place j at) ∙ eq-eqb mark mark refl in
          let e : true ≡ false = sym (stops-own has) ∙ t in cc)

  newest-other : (m : ℕ) → m ≢ mark → newest_in longest marks new rest m ≡ newest_in longest marks slots rest m
  newest-other m other = by_test (nat_eq (probe_in longest marks slots m) (suc i)) refl
    where
      place-kept : (e : ℕ) → e ≢ suc i → place_in new rest m e ≡ place_in slots rest m e
      place-kept zero h = refl
      place-kept (suc k) h = ap place_of (set_else slots i k taken (λ e. h (ap suc e)))

      by_test : (b : Bool) → nat_eq (probe_in longest marks slots m) (suc i) ≡ b → newest_in longest marks new rest m ≡ newest_in longest marks slots rest m
      by_test true t =
          let was = eqb-true (probe_in longest marks slots m) (suc i) t in
          newest-gone m (stops-other m other) was ∙ sym (nothing-there m other was)
      by_test false t =
          let else = false-eqb (probe_in longest marks slots m) (suc i) (sym t) in
          ap (place_in new rest m) (probe-kept m (stops-other m other) else) ∙ place-kept (probe_in longest marks slots m) else

  pub newest-taken : (m : ℕ) → newest_in longest marks new rest m ≡ cond (nat_eq m mark) place (newest_in longest marks slots rest m)
  newest-taken m = by_test (nat_eq m mark) refl
    where
      by_test : (b : Bool) → nat_eq m mark ≡ b → newest_in longest marks new rest m ≡ cond b place (newest_in longest marks slots rest m)
      by_test true t = ap (newest_in longest marks new rest) (eqb-true m mark t) ∙ newest-own
      by_test false t = newest-other m (false-eqb m mark (sym t))

  place_within : (p : ℕ) → place ≡ p → place ≤ length marks
  place_within zero at = omega (arith, at)
  place_within (suc j) at = let within = slice_get_within marks j mark (is_place j at) in omega (arith, at, within)

  pub probed-taken : AreProbed longest marks new rest
  probed-taken = record {
    within = λ k s h. elim (slice_get-set slots i k s taken h) [
      | inl at ↦ subst (λ (x : Slot). x.place ≤ length marks) at.1 (place_within place refl)
      | inr at ↦ are.within k s at.1
    ];
    free = λ k s h none. elim (slice_get-set slots i k s taken h) [
      | inl at ↦ absurd (false-eqb (tag_of mark) 0 (sym (tag-some mark)) (ap (λ (x : Slot). x.tag) at.1 ∙ none))
      | inr at ↦ are.free k s at.1 none
    ];
    ends = λ k m s h has. elim (slice_get-set slots i k s taken h) [
      | inl at ↦ (
          let taken_has : has_mark marks place m ≡ true = ap (λ (x : Slot). has_mark marks x.place m) at.1 ∙ has in
          let own = has-own m place refl taken_has in
          ap (probe_in longest marks new) own
          ∙ probe-own (stops-own (ap (has_mark marks place) (sym own) ∙ taken_has))
          ∙ ap suc (sym at.0))
      | inr at ↦ (
          let was = are.ends k m s at.1 has in
          let else : probe_in longest marks slots m ≢ suc i = λ e. (let same : suc k ≡ suc i = sym was ∙ e in at.0 (omega (arith, same))) in
          probe-kept m (stops-other m (λ e. else (ap (probe_in longest marks slots) e ∙ end))) else ∙ was)
    ];
    apart = λ m k h. by_end m k h (probe_in longest marks slots m) refl;
  }
    where
      by_end : (m k : ℕ) → probe_in longest marks new m ≡ suc k → (e : ℕ) → probe_in longest marks slots m ≡ e → get nat_cmp rest m ≡ None
      by_end m k h (suc j) was = are.apart m j was
      by_end m k h zero was =
          let else : probe_in longest marks slots m ≢ suc i = λ e. (let none : 0 ≡ suc i = sym was ∙ e in omega (arith, none)) in
          let end_kept = probe-kept m (stops-other m (λ e. else (ap (probe_in longest marks slots) e ∙ end))) else in
          absurd (let none : suc k ≡ 0 = sym h ∙ end_kept ∙ was in omega (arith, none))

-- as calls read and write it
module _ (longest : ℕ) (marks : List ℕ) (slots : List Slot) (rest : BTreeMap ℕ ℕ) (mark end : ℕ) (end_is : end ≡ probe_in longest marks slots mark) (some : 0 < end) where
  at_end : probe_in longest marks slots mark ≡ suc (end - 1)
  at_end = sym end_is ∙ (let e : end ≡ suc (end - 1) = omega (arith, some) in e)

  pub end_less : end - 1 < length slots
  end_less = let within = end_within longest marks slots mark end end_is some in omega (arith, some, within)

  pub place_at_end : place_of (slice_get slots (end - 1)) ≡ newest_in longest marks slots rest mark
  place_at_end = ap (place_in slots rest mark) (sym at_end)

  module _ (more : List ℕ) (are : AreProbed longest marks slots rest) (place tag : ℕ) (tag_is : tag ≡ tag_of mark) (is_place : IsPlaceOf (marks ++ more) mark place) where
    abbrev written : ℕ → List Slot
    written t = slice_set slots (end - 1) (record { tag = t; place = place })

    at_end-more : probe_in longest (marks ++ more) slots mark ≡ suc (end - 1)
    at_end-more = sym (probe-more longest marks more slots rest are mark) ∙ at_end

    pub probed-written : AreProbed longest (marks ++ more) (written tag) rest
    probed-written =
        subst (λ (t : ℕ). AreProbed longest (marks ++ more) (written t) rest) (sym tag_is)
        (probed-taken longest (marks ++ more) slots rest (probed-more longest marks more slots rest are) mark place (end - 1) at_end-more is_place)

    pub newest-written : (m : ℕ) → newest_in longest (marks ++ more) (written tag) rest m ≡ cond (nat_eq m mark) place (newest_in longest marks slots rest m)
    newest-written m =
        ap (λ (t : ℕ). newest_in longest (marks ++ more) (written t) rest m) tag_is
        ∙ newest-taken longest (marks ++ more) slots rest (probed-more longest marks more slots rest are) mark place (end - 1) at_end-more is_place m
        ∙ ap (λ (n : ℕ). cond (nat_eq m mark) place n) (sym (newest-more longest marks more slots rest are m))

-- ---- a mark gets a place in the tree

module _ (longest : ℕ) (marks : List ℕ) (slots : List Slot) (rest new : BTreeMap ℕ ℕ) (mark place : ℕ) (none : probe_in longest marks slots mark ≡ 0)
    (updates : Updates nat_cmp rest new mark (Some place)) where
  not_at : (m i : ℕ) → probe_in longest marks slots m ≡ suc i → nat_eq m mark ≡ true → ⊥
  not_at m i h t = let e : suc i ≡ 0 = sym h ∙ ap (probe_in longest marks slots) (eqb-true m mark t) ∙ none in omega (arith, e)

  pub newest-in_tree : (m : ℕ) → newest_in longest marks slots new m ≡ cond (nat_eq m mark) place (newest_in longest marks slots rest m)
  newest-in_tree m = by_end (probe_in longest marks slots m) refl
    where
      by_test : (i : ℕ) → probe_in longest marks slots m ≡ suc i → (b : Bool) → nat_eq m mark ≡ b → place_of (slice_get slots i) ≡ cond b place (place_of (slice_get slots i))
      by_test i h false t = refl
      by_test i h true t = absurd (not_at m i h t)

      by_end : (e : ℕ) → probe_in longest marks slots m ≡ e → place_in slots new m e ≡ cond (nat_eq m mark) place (place_in slots rest m e)
      by_end zero h = set_at rest new mark place updates m
      by_end (suc i) h = by_test i h (nat_eq m mark) refl

  pub probed-in_tree : AreProbed longest marks slots rest → AreProbed longest marks slots new
  probed-in_tree are = record {
    within = are.within;
    free = are.free;
    ends = are.ends;
    apart = λ m i h. by_test m i h (nat_eq m mark) refl;
  }
    where
      by_test : (m i : ℕ) → probe_in longest marks slots m ≡ suc i → (b : Bool) → nat_eq m mark ≡ b → get nat_cmp new m ≡ None
      by_test m i h true t = absurd (not_at m i h t)
      by_test m i h false t = updates.0 m ∙ ap (λ (b : Bool). cond b (Some place) (get nat_cmp rest m)) (at_mark mark m ∙ t) ∙ are.apart m i h

-- a tree that stayed the same
module _ (longest : ℕ) (marks : List ℕ) (slots : List Slot) (rest new : BTreeMap ℕ ℕ) (same : new.entries ≡ rest.entries) where
  pub newest-same_tree : (mark : ℕ) → newest_in longest marks slots new mark ≡ newest_in longest marks slots rest mark
  newest-same_tree mark = by_end (probe_in longest marks slots mark)
    where
      by_end : (e : ℕ) → place_in slots new mark e ≡ place_in slots rest mark e
      by_end zero = rw same refl
      by_end (suc i) = refl

  pub probed-same_tree : AreProbed longest marks slots rest → AreProbed longest marks slots new
  probed-same_tree are = record {
    within = are.within;
    free = are.free;
    ends = are.ends;
    apart = λ mark i h. (let e : get nat_cmp new mark ≡ get nat_cmp rest mark = rw same refl in e) ∙ are.apart mark i h;
  }
