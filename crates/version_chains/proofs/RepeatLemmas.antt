-- The first place at which a number stands again, and at which its tuple does.
use Rattle.std.proofs.Common.{◌≡◌, ℕ, ◌+◌, ◌-◌, ◌<◌, ◌≤◌, Bool, true, false, cond, List, [], ◌∷◌, ◌++◌, map, sym, ◌∙◌, ap, Some, length, take, drop, get_or, nat_eq, refl, zero, suc, arith, append_assoc, inl, inr, not, subst, Result, Ok, Err, is_ok}
use Rattle.std.specs.Prelude.{slice_get}
use Rattle.std.specs.List.{list_any}
use Rattle.std.specs.Ordering.{nat_cmp}
use Rattle.std.proofs.lemmas.Bool.{eq-eqb, ne_eqb, cases_lt}
use Rattle.std.proofs.lemmas.Grind.{get_or_default_zero}
use Rattle.std.proofs.lemmas.List.Folds.{list_any_at, list_any_none}
use Rattle.std.proofs.lemmas.List.{take_more, drop_more, map-append, get_or-take, length-take}
use Rattle.std.proofs.lemmas.List.Sorted.{searched}
use Rattle.std.specs.List.Sorted.{IsBinarySearchResult, IsStrictlyIncreasing}
use Rattle.tuple_text.specs.Tuples.{TupleValue}
use Rattle.tuple_text.specs.Order.{tuple_eq}
use Rattle.version_chains.specs.Appends.{repeat_from, first_repeat}
use Rattle.version_chains.specs.Arena.{AreApartAt, AreNumbersOf, Extends}
use Rattle.version_chains.specs.Commits.{Touch}
use Rattle.version_chains.proofs.CommitLemmas.{side}
use Rattle.version_chains.proofs.ArenaLemmas.{tuples_by_number}

-- one item of the list
repeat_more : {X : Type 0} (eq : X → X → Bool) (xs : List X) (i : ℕ) (d : X) → i < length xs
    → repeat_from eq (take i xs) i (drop i xs) ≡ cond (list_any (λ s. eq s (get_or xs i d)) (take i xs)) (Some i) (repeat_from eq (take (i + 1) xs) (i + 1) (drop (i + 1) xs))
repeat_more eq xs i d h =
    ap (repeat_from eq (take i xs) i) (drop_more xs i d h)
    ∙ ap (λ ys. cond (list_any (λ s. eq s (get_or xs i d)) (take i xs)) (Some i) (repeat_from eq ys (i + 1) (drop (i + 1) xs))) (sym (take_more xs i d h))

-- what holds of no numbers, and of one more, holds of all numbers beside their tuples
by_numbers : (tuples : List TupleValue) (P : List ℕ → List TupleValue → Type 0) → P [] []
    → ((n : ℕ) (t : TupleValue) (ns : List ℕ) (ts : List TupleValue)
    → slice_get tuples n ≡ Some t → P ns ts → P (n ∷ ns) (t ∷ ts))
    → (ns : List ℕ) (ts : List TupleValue) → AreNumbersOf tuples ns ts → P ns ts
by_numbers tuples P none more [] [] e = none
by_numbers tuples P none more [] (t ∷ ts) e = absurd cc
by_numbers tuples P none more (n ∷ ns) [] e = absurd cc
by_numbers tuples P none more (n ∷ ns) (t ∷ ts) e =
    let here : slice_get tuples n ≡ Some t = cc in
    let rest : AreNumbersOf tuples ns ts = cc in
    more n t ns ts here (by_numbers tuples P none more ns ts rest)

-- numbers stand again where their tuples do
module _ (tuples : List TupleValue) (apart : AreApartAt tuples) where
  same_member : (k : ℕ) (t : TupleValue) → slice_get tuples k ≡ Some t → (ns : List ℕ) (ts : List TupleValue) → AreNumbersOf tuples ns ts → list_any (λ s. nat_eq s k) ns ≡ list_any (λ s. tuple_eq s t) ts
  same_member k t at =
      by_numbers tuples (λ ns ts. list_any (λ s. nat_eq s k) ns ≡ list_any (λ s. tuple_eq s t) ts) refl
      (λ n u ns ts here further. rw (tuples_by_number tuples apart n k u t here at, further) refl)

  more_numbers : (ns : List ℕ) (ts : List TupleValue) (k : ℕ) (t : TupleValue) → AreNumbersOf tuples ns ts → slice_get tuples k ≡ Some t → AreNumbersOf tuples (ns ++ k ∷ []) (ts ++ t ∷ [])
  more_numbers ns ts k t are at = map-append (slice_get tuples) ns (k ∷ []) ∙ rw (are, at) (sym (map-append Some ts (t ∷ [])))

  abbrev RepeatsAlike : List ℕ → List TupleValue → Type 0
  RepeatsAlike ns ts =
      (before : List ℕ) (seen : List TupleValue) → AreNumbersOf tuples before seen → (n : ℕ)
      → repeat_from nat_eq before n ns ≡ repeat_from tuple_eq seen n ts

  same_repeat : (ns : List ℕ) (ts : List TupleValue) → AreNumbersOf tuples ns ts → RepeatsAlike ns ts
  same_repeat =
      by_numbers tuples RepeatsAlike (λ before seen were n. refl)
      (λ k t ns ts here further before seen were n.
      rw (
        same_member k t here before seen were,
        further (before ++ k ∷ []) (seen ++ t ∷ []) (more_numbers before seen k t were here) (n + 1),
      ) refl)

  pub first_repeat_by_number : (ns : List ℕ) (ts : List TupleValue) → AreNumbersOf tuples ns ts → repeat_from nat_eq [] 0 ns ≡ first_repeat ts
  first_repeat_by_number ns ts are = same_repeat ns ts are [] [] refl 0

-- the same numbers in a longer list
pub numbers_extended : (old new : List TupleValue) → Extends old new → (ns : List ℕ) (ts : List TupleValue) → AreNumbersOf old ns ts → AreNumbersOf new ns ts
numbers_extended old new ext =
    by_numbers old (AreNumbersOf new) refl (λ n t ns ts here further. rw (ext n t here, further) refl)

-- a step of a loop that finds numbers
pub numbers_step : (mid new : List TupleValue) (ns : List ℕ) (ts us : List TupleValue) (i k : ℕ) (t : TupleValue) → i < length us → t ≡ get_or us i t
    → AreNumbersOf mid ns (ts ++ take i us) → Extends mid new → slice_get new k ≡ Some t → AreNumbersOf new (ns ++ k ∷ []) (ts ++ take (i + 1) us)
numbers_step mid new ns ts us i k t h is are ext here =
    map-append (slice_get new) ns (k ∷ [])
    ∙ rw (numbers_extended mid new ext ns (ts ++ take i us) are, here) (sym (map-append Some (ts ++ take i us) (t ∷ [])))
    ∙ ap (map Some) (append_assoc ts (take i us) (t ∷ []) ∙ ap (λ ys. ts ++ ys) (sym (take_more us i t h ∙ ap (λ y. take i us ++ y ∷ []) (sym is))))

-- the tuple of a number in the list
pub number_at : (tuples : List TupleValue) (ns : List ℕ) (ts : List TupleValue) (i : ℕ) → AreNumbersOf tuples ns ts → i < length ns → (t : TupleValue) × (slice_get tuples (get_or ns i 0) ≡ Some t) × (i < length ts) × (t ≡ get_or ts i t)
number_at tuples [] ts i e h = absurd (omega (arith, h))
number_at tuples (n ∷ ns) [] i e h = absurd cc
number_at tuples (n ∷ ns) (t ∷ ts) zero e h = (t, cc, omega arith, refl)
number_at tuples (n ∷ ns) (t ∷ ts) (suc i) e h =
    let rest : AreNumbersOf tuples ns ts = cc in
    let w = number_at tuples ns ts i rest (omega (arith, h)) in
    let less = w.2 in
    (w.0, w.1, omega (arith, less), w.3)

-- a step of a loop that adds touches
pub pushed_step : (at : ℕ) (live : Bool) (old touches : List Touch) (ts : List TupleValue) (i : ℕ) (t : TupleValue) → i < length ts → t ≡ get_or ts i t
    → touches ≡ old ++ side at live (take i ts) → touches ++ record { at = at; live = live; tuple = t } ∷ [] ≡ old ++ side at live (take (i + 1) ts)
pushed_step at live old touches ts i t h is e =
    ap (λ xs. xs ++ record { at = at; live = live; tuple = t } ∷ []) e
    ∙ append_assoc old (side at live (take i ts)) (record { at = at; live = live; tuple = t } ∷ [])
    ∙ ap (λ xs. old ++ xs) (sym (map-append (λ t. record { at = at; live = live; tuple = t }) (take i ts) (t ∷ [])) ∙ ap (side at live) (sym (take_more ts i t h ∙ ap (λ y. take i ts ++ y ∷ []) (sym is))))

-- numbers in two parts
pub numbers_split : (tuples : List TupleValue) (ns : List ℕ) (ts us : List TupleValue) → AreNumbersOf tuples ns (ts ++ us) → AreNumbersOf tuples (take (length ts) ns) ts × AreNumbersOf tuples (drop (length ts) ns) us × (length ts ≤ length ns)
numbers_split tuples ns [] us e = (refl, e, omega arith)
numbers_split tuples [] (t ∷ ts) us e = absurd cc
numbers_split tuples (n ∷ ns) (t ∷ ts) us e =
    let here : slice_get tuples n ≡ Some t = cc in
    let rest : AreNumbersOf tuples ns (ts ++ us) = cc in
    let w = numbers_split tuples ns ts us rest in
    let less = w.2 in
    (rw (here, w.0) refl, w.1, omega (arith, less))

-- ---- the loop that looks for a repeat, where a test says what was seen

module _ (xs : List ℕ) (i : ℕ) (h : i < length xs) (has : ℕ → Bool)
    (were : (k : ℕ) → has k ≡ list_any (λ s. nat_eq s k) (take i xs))
    (left : repeat_from nat_eq [] 0 xs ≡ repeat_from nat_eq (take i xs) i (drop i xs)) where
  abbrev x : ℕ
  x = get_or xs i 0

  by_test : (b : Bool) → has x ≡ b → repeat_from nat_eq [] 0 xs ≡ cond b (Some i) (repeat_from nat_eq (take (i + 1) xs) (i + 1) (drop (i + 1) xs))
  by_test b e = left ∙ repeat_more nat_eq xs i 0 h ∙ ap (λ b. cond b (Some i) (repeat_from nat_eq (take (i + 1) xs) (i + 1) (drop (i + 1) xs))) (sym (were x) ∙ e)

  pub repeat_here : has x ≡ true → Some i ≡ repeat_from nat_eq [] 0 xs
  repeat_here e = sym (by_test true e)

  pub repeat_on : has x ≡ false → repeat_from nat_eq [] 0 xs ≡ repeat_from nat_eq (take (i + 1) xs) (i + 1) (drop (i + 1) xs)
  repeat_on e = by_test false e

-- ---- numbers that rise

further : (a b c : ℕ) → a < b → b < c → a < c
further a b c lt more = omega (arith, lt, more)

-- each is above all before it
pub rises : (xs : List ℕ) → IsStrictlyIncreasing xs → (i j : ℕ) → i < j → j < length xs → get_or xs i 0 < get_or xs j 0
rises xs up i zero lt h = absurd (omega (arith, lt))
rises xs up i (suc j) lt h =
    let next : suc j ≡ j + 1 = omega arith in
    let last : get_or xs j 0 < get_or xs (j + 1) 0 = up j (subst (λ n. n < length xs) next h) in
    rw next (elim (cases_lt i j) [
      | inl below ↦ further (get_or xs i 0) (get_or xs j 0) (get_or xs (j + 1) 0) (rises xs up i j below (further j (suc j) (length xs) (omega arith) h)) last
      | inr same ↦ let is : i ≡ j = omega (arith, lt, same) in subst (λ k. get_or xs k 0 < get_or xs (j + 1) 0) (sym is) last
    ])

pub never_falls : (xs : List ℕ) → IsStrictlyIncreasing xs → (i j : ℕ) → i ≤ j → j < length xs → get_or xs i 0 ≤ get_or xs j 0
never_falls xs up i j le h =
    elim (cases_lt i j) [
      | inl below ↦ let lt = rises xs up i j below h in omega (arith, lt)
      | inr same ↦ let is : i ≡ j = omega (arith, le, same) in subst (λ k. get_or xs i 0 ≤ get_or xs k 0) is (omega arith)
    ]

-- one that is searched for is among them or not
pub searched_among : (xs : List ℕ) (x : ℕ) (r : Result ℕ ℕ) → IsStrictlyIncreasing xs → IsBinarySearchResult (λ y. nat_cmp y x) xs r → is_ok r ≡ list_any (λ s. nat_eq s x) xs
searched_among xs x (Ok i) up h =
    let at = searched xs x (Ok i) h (never_falls xs up) in
    sym (list_any_at (λ s. nat_eq s x) xs i 0 at.0 (eq-eqb _ _ at.1))
searched_among xs x (Err i) up h =
    let at = searched xs x (Err i) h (never_falls xs up) in
    sym (list_any_none (λ s. nat_eq s x) xs (λ k d lt.
    let same = get_or_default_zero xs k d lt in
    ne_eqb (get_or xs k d) x (λ e. elim (cases_lt k i) [
      | inl below ↦ let l = at.1 k below in absurd (omega (arith, l, e, same))
      | inr above ↦ let l = at.2 k above lt in absurd (omega (arith, l, e, same))
    ])))

-- none of those that rise stands twice
pub rising_on : (xs : List ℕ) (n : ℕ) → n ≤ length xs → IsStrictlyIncreasing (take n xs) → (i : ℕ) → i ≤ n → repeat_from nat_eq [] 0 xs ≡ repeat_from nat_eq (take i xs) i (drop i xs)
rising_on xs n within up zero le = refl
rising_on xs n within up (suc i) le =
    let next : suc i ≡ i + 1 = omega arith in
    rw next (repeat_on xs i (omega (arith, le, within)) (λ k. list_any (λ s. nat_eq s k) (take i xs)) (λ k. refl)
    (rising_on xs n within up i (omega (arith, le)))
    (list_any_none (λ s. nat_eq s (get_or xs i 0)) (take i xs) (λ k d lt.
    let few = length-take i xs in
    let below : k < i = omega (arith, lt, few) in
    let all = length-take n xs in
    let less = rises (take n xs) up k i below (omega (arith, le, within, all)) in
    let one = get_or_default_zero (take i xs) k d lt in
    let here = get_or-take i xs k 0 below in
    let there = get_or-take n xs k 0 (omega (arith, below, le)) in
    let other = get_or-take n xs i 0 (omega (arith, le)) in
    ne_eqb (get_or (take i xs) k d) (get_or xs i 0) (λ e. absurd (omega (arith, less, one, here, there, other, e))))))

-- one more rises
pub rising_more : (xs : List ℕ) (i : ℕ) → 0 < i → i < length xs → get_or xs (i - 1) 0 < get_or xs i 0 → IsStrictlyIncreasing (take i xs) → IsStrictlyIncreasing (take (i + 1) xs)
rising_more xs i some h above up k lt =
    let few = length-take i xs in
    let more = length-take (i + 1) xs in
    let one = get_or-take (i + 1) xs k 0 (omega (arith, lt, more, h)) in
    let next = get_or-take (i + 1) xs (k + 1) 0 (omega (arith, lt, more, h)) in
    elim (cases_lt (k + 1) i) [
      | inl below ↦
          let less = up k (omega (arith, below, few, h)) in
          let here = get_or-take i xs k 0 (omega (arith, below)) in
          let there = get_or-take i xs (k + 1) 0 below in
          omega (arith, less, here, there, one, next)
      | inr last ↦
          let is : k + 1 ≡ i = omega (arith, last, lt, more, h) in
          let before : k ≡ i - 1 = omega (arith, is) in
          let less : get_or xs k 0 < get_or xs (k + 1) 0 = subst (λ j. get_or xs k 0 < get_or xs j 0) (sym is) (subst (λ j. get_or xs j 0 < get_or xs i 0) (sym before) above) in
          omega (arith, less, one, next)
    ]

-- what an insert says of its number before
pub was_there : (added was : Bool) → added ≡ not was → added ≡ false → was ≡ true
was_there added true e f = refl
was_there added false e f = sym f ∙ e
