-- Up to its end a touch is the last of its tuple.
use Rattle.std.proofs.Common.{◌≡◌, ℕ, zero, suc, ◌+◌, ◌-◌, ◌<◌, ◌≤◌, ◌^◌, Bool, true, false, cond, List, [], ◌∷◌, ◌++◌, length, sym, ◌∙◌, ap, subst, None, Some, inl, inr, ◌⊎◌, arith}
use Rattle.std.specs.Prelude.{slice_get, slice_set}
use Rattle.std.proofs.Math.Nat.{eq-or-lt_of_le}
use Rattle.std.proofs.lemmas.Bool.{cases_lt}
use Rattle.std.proofs.lemmas.Option.{slice_get_within}
use Rattle.tuple_text.specs.Order.{tuple_eq}
use Rattle.tuple_text.specs.Tuples.{TupleValue}
use Rattle.tuple_text.proofs.ValueLemmas.{tuple_eq-itself, tuple_eq-same}
use Rattle.version_chains.specs.Commits.{Touch}
use Rattle.marks.specs.Placed.{last_place, passes}
use Rattle.marks.proofs.PlacedLemmas.{at_last_place, last_place-here, slice_get-cases, slice_get-set}
use Rattle.userset_index.specs.Building.{AreLastAmong, AreRising, IsEnd}
use Rattle.userset_index.specs.Index.{IsLastTouch}

-- the last place is no earlier than any
pub reaches : {X : Type 0} (p : X → Bool) (xs : List X) (n j : ℕ) (x : X) → j < n → slice_get xs j ≡ Some x → p x ≡ true → suc j ≤ last_place p xs n
reaches p xs zero j x less here holds = absurd (omega (arith, less))
reaches {X} p xs (suc n) j x less here holds = by_place (eq-or-lt_of_le (let near : j ≤ n = omega (arith, less) in near)) (λ before. reaches p xs n j x before here holds)
  where
    pick : (b : Bool) → j < n → suc j ≤ last_place p xs n → suc j ≤ cond b (suc n) (last_place p xs n)
    pick true before near = omega (arith, before)
    pick false before near = near

    by_place : (j ≡ n) ⊎ (j < n) → (j < n → suc j ≤ last_place p xs n) → suc j ≤ last_place p xs (suc n)
    by_place (inl e) further =
        let last = last_place-here p xs n x (subst (λ (k : ℕ). slice_get xs k ≡ Some x) e here) holds in
        omega (arith, e, last)
    by_place (inr before) further = pick (passes p (slice_get xs n)) before (further before)

one_touch : (touches : List Touch) (i j : ℕ) (x y : Touch) → slice_get touches i ≡ Some x → slice_get touches j ≡ Some y → i ≡ j → x ≡ y
one_touch touches i j x y here there same = let both : Some x ≡ Some y = sym here ∙ ap (slice_get touches) same ∙ there in cc

module _ (touches : List Touch) (at i n : ℕ) (y : Touch) (last : IsLastTouch touches at i y) where
  -- the last touch of a tuple is that which stands at its place
  pub last_here : (x : Touch) → i ≡ n → slice_get touches n ≡ Some x → (y ≡ x) × IsLastTouch touches at n x
  last_here x e here =
      let is = one_touch touches i n y x last.here here e in
      (is, subst (IsLastTouch touches at n) is (subst (λ (k : ℕ). IsLastTouch touches at k y) e last))

  -- and stands before a place at which there is none
  pub last_before : i < n + 1 → slice_get touches n ≡ None → i < n
  last_before less none = elim (eq-or-lt_of_le (let near : i ≤ n = omega (arith, less) in near)) [
    | inr before ↦ before
    | inl e ↦ absurd (let bad : None ≡ Some y = sym none ∙ ap (slice_get touches) (sym e) ∙ last.here in cc)
  ]

-- a touch that is the last of its tuple at a timestamp has not ended before
pub last_within : (touches : List Touch) (at n end : ℕ) (x : Touch) → IsEnd touches n x end
    → IsLastTouch touches at n x → at < 2 ^ 64 → at ≤ end
last_within touches at n end x ended last small = elim (cases_lt end at) [
  | inl late ↦
      let w = ended at late small in
      let after = last.last w.0 w.1 w.2 w.3 w.4 in
      let by = w.5 in
      absurd (omega (arith, after, by))
  | inr within ↦ within
]

of_tuple : (x y z : Touch) → x.tuple ≡ y.tuple → tuple_eq y.tuple z.tuple ≡ true → tuple_eq x.tuple z.tuple ≡ true
of_tuple x y z same is = ap (λ (t : TupleValue). tuple_eq t z.tuple) same ∙ is

itself : (x y : Touch) → x.tuple ≡ y.tuple → tuple_eq x.tuple y.tuple ≡ true
itself x y same = ap (λ (t : TupleValue). tuple_eq t y.tuple) same ∙ tuple_eq-itself y.tuple

module _ (touches : List Touch) (ends : List ℕ) where
  -- a touch that has none after it so far
  pub last_more : (n end : ℕ) → n ≡ suc (length ends) → AreLastAmong n touches ends → AreLastAmong n touches (ends ++ end ∷ [])
  last_more n end next last i j e x y here there less within later same = elim (slice_get-cases ends end i e there) [
    | inl old ↦ last i j e x y here old less within later same
    | inr new ↦ let at = new.0 in absurd (omega (arith, next, at, less, within))
  ]

  module _ (y : Touch) (now : slice_get touches (length ends) ≡ Some y) (last : AreLastAmong (length ends) touches ends) where
    -- this touch is the first of its tuple
    pub last_alone : last_place (λ x. tuple_eq x.tuple y.tuple) touches (length ends) ≡ 0 → AreLastAmong (suc (length ends)) touches ends
    last_alone none i j e x z here there less within later same = elim (eq-or-lt_of_le (let near : j ≤ length ends = omega (arith, within) in near)) [
      | inl at ↦
          let is = one_touch touches j (length ends) z y later now at in
          let before = slice_get_within ends i e there in
          let of : x.tuple ≡ y.tuple = sym same ∙ ap (λ (t : Touch). t.tuple) is in
          let place = reaches (λ (t : Touch). tuple_eq t.tuple y.tuple) touches (length ends) i x before here (itself x y of) in
          absurd (omega (arith, place, none))
      | inr before ↦ last i j e x z here there less before later same
    ]

    -- the one before it of its tuple ends where it begins
    pub last_set : (k end : ℕ) → AreRising touches → last_place (λ x. tuple_eq x.tuple y.tuple) touches (length ends) ≡ suc k → end ≡ y.at - 1
        → AreLastAmong (suc (length ends)) touches (slice_set ends k end)
    last_set k end rising place ended i j e x z here there less within later same = elim (slice_get-set ends k i e end there) [
      | inl new ↦ elim (eq-or-lt_of_le (let near : j ≤ length ends = omega (arith, within) in near)) [
        | inl at ↦
            let is = ap (λ (t : Touch). t.at) (one_touch touches j (length ends) z y later now at) in
            let up = rising i j x z less here later same in
            let e_is = new.1 in
            omega (arith, is, up, e_is, ended)
        | inr before ↦
            let w = at_last_place (λ (t : Touch). tuple_eq t.tuple y.tuple) touches (length ends) k place in
            let x_is = one_touch touches i k x w.0 here w.1 new.0 in
            let of = of_tuple z w.0 y (same ∙ ap (λ (t : Touch). t.tuple) x_is) w.2 in
            let reach = reaches (λ (t : Touch). tuple_eq t.tuple y.tuple) touches (length ends) j z before later of in
            let at = new.0 in
            absurd (omega (arith, reach, place, at, less))
      ]
      | inr old ↦ elim (eq-or-lt_of_le (let near : j ≤ length ends = omega (arith, within) in near)) [
        | inl at ↦
            let is = one_touch touches j (length ends) z y later now at in
            let known = slice_get_within ends i e old.1 in
            let of : x.tuple ≡ y.tuple = sym same ∙ ap (λ (t : Touch). t.tuple) is in
            let reach = reaches (λ (t : Touch). tuple_eq t.tuple y.tuple) touches (length ends) i x known here (itself x y of) in
            let w = at_last_place (λ (t : Touch). tuple_eq t.tuple y.tuple) touches (length ends) k place in
            let w_is : w.0.tuple ≡ y.tuple = tuple_eq-same w.0.tuple y.tuple w.2 in
            elim (eq-or-lt_of_le (let near : i ≤ k = omega (arith, reach, place) in near)) [
              | inl one ↦ absurd (old.0 one)
              | inr earlier ↦
                  let w_within = w.3 in
                  let first = last i k e x w.0 here old.1 earlier w_within w.1 (w_is ∙ sym of) in
                  let up = rising k j w.0 z (omega (arith, w_within, at)) w.1 later (ap (λ (t : Touch). t.tuple) is ∙ sym w_is) in
                  omega (arith, first, up)
            ]
        | inr before ↦ last i j e x z here old.1 less before later same
      ]
    ]
