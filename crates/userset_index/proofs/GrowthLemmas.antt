-- A touch more in an index that grows.
use Rattle.std.proofs.Common.{◌≡◌, ℕ, zero, suc, ◌+◌, ◌-◌, ◌<◌, ◌≤◌, ◌^◌, ◌⊎◌, inl, inr, min, true, false, take, List, [], ◌∷◌, ◌++◌, length, refl, sym, ◌∙◌, ap, subst, Option, None, Some, arith, length-append}
use Rattle.std.specs.Prelude.{slice_get, nat_le, Contains, IfSome}
use Rattle.std.specs.List.{AllByRecursion, IsDistinct}
use Rattle.std.proofs.Math.Seq.{take-length}
use Rattle.std.proofs.lemmas.Bool.{cases_lt, and_parts, le-leb, leb-true}
use Rattle.std.proofs.lemmas.List.Elements.{Contains-push_cases}
use Rattle.std.proofs.lemmas.Option.{get_or_from_slice_get, slice_get-get_or, slice_get_within}
use Rattle.tuple_text.specs.Order.{tuple_eq}
use Rattle.tuple_text.specs.declared.users.User.TheVariants.{Set}
use Rattle.tuple_text.specs.Sets.{SetValue}
use Rattle.tuple_text.specs.Tuples.{TupleValue, tuple_of}
use Rattle.tuple_text.specs.declared.users.User.{User}
use Rattle.tuple_text.proofs.ValueLemmas.{tuple_eq-itself, tuple_eq-same}
use Rattle.namespaces.specs.Declaration.{Declaration}
use Rattle.std.proofs.lemmas.Grind.{flat_map-append}
use Rattle.version_chains.specs.Commits.{Commit, Touch, changelog, touches}
use Rattle.marks.specs.Placed.{last_place}
use Rattle.marks.proofs.PlacedLemmas.{at_last_place, slice_get-cases, slice_get-kept}
use Rattle.userset_index.specs.Building.{AreOfFirst, AreRising, IsWithin, kept}
use Rattle.marks.specs.Marks.{pair_mark, set_mark}
use Rattle.userset_index.specs.Growth.{AreLivesOf, ArePlaced, Finds, IsBegun, IsClosed, IsGrowing, IsGrownTo, IsLifeBy, IsMarkThrough, IsReady, Marking, Takes, taken_of}
use Rattle.userset_index.specs.Index.{AreOnce, AreTimely, IndexValue, IsFound, IsLastTouch, IsMark, IsTimely, IsWhole, is_of_same}
use Rattle.userset_index.specs.declared.life.Way.TheVariants.{Object, Own}
use Rattle.userset_index.specs.Lives.{ended, is_alive, shortened}
use Rattle.userset_index.specs.declared.life.Life.{Life}
use Rattle.userset_index.proofs.BuildLemmas.{found_here, kept_further}
use Rattle.userset_index.proofs.EndLemmas.{reaches}
use Rattle.userset_index.proofs.EndedLemmas.{ended_cases, ended_here, ended_other}
use Rattle.userset_index.proofs.ExactLemmas.{of_first_next, of_first_none}

element : {X : Type 0} (xs : List X) (i : ℕ) (x : X) → slice_get xs i ≡ Some x → Contains xs x
element xs i x at = (i, slice_get_within xs i x at, get_or_from_slice_get xs i x x at)

place_of : {X : Type 0} (xs : List X) (x : X) → Contains xs x → (i : ℕ) × (slice_get xs i ≡ Some x)
place_of xs x (i, lt, is) = (i, slice_get-get_or xs i x lt ∙ ap Some is)

-- ---- a life that ends

all_ended : (k : Life) (i until : ℕ) (ls : List Life) → AllByRecursion (λ y. is_of_same k y ≡ false) ls
    → AllByRecursion (λ y. is_of_same k y ≡ false) (ended i until ls)
all_ended k i until [] all = tt
all_ended k zero until (l ∷ ls) all = (all.0, all.1)
all_ended k (suc i) until (l ∷ ls) all = (all.0, all_ended k i until ls all.1)

once_ended : (i until : ℕ) (ls : List Life) → AreOnce ls → AreOnce (ended i until ls)
unfolding IsDistinct
once_ended i until [] once = once
once_ended zero until (l ∷ ls) once = (once.0, once.1)
once_ended (suc i) until (l ∷ ls) once = (all_ended l i until ls once.0, once_ended i until ls once.1)

-- nothing ends
pub closed_none : (older until : ℕ) (ls : List Life) → ((l : Life) → Contains ls l → ¬ (suc l.touch ≡ older))
    → IsClosed older until ls ls
closed_none older until ls none = record {
  others = λ l there differ. there;
  own = λ l there same. absurd (none l there same);
  only = λ m there. inl (there, none m there);
  once = λ once. once;
}

-- no life stands where no place is noted
pub none_placed : (lives : List Life) (places : List ℕ) → ArePlaced lives places → (t : ℕ) (o : Option ℕ) → slice_get places t ≡ o
    → ((i : ℕ) → o ≡ Some (suc i) → ⊥) → (l : Life) → Contains lives l → ¬ (suc l.touch ≡ suc t)
none_placed lives places placed t o is none l there same =
    let w = place_of lives l there in
    let touch : l.touch ≡ t = omega (arith, same) in
    none w.0 (sym is ∙ ap (slice_get places) (sym touch) ∙ placed.here w.0 l w.1)

pub closed_at : (lives : List Life) (places : List ℕ) → ArePlaced lives places → (t i until : ℕ) → slice_get places t ≡ Some (suc i)
    → IsClosed (suc t) until lives (ended i until lives)
closed_at lives places placed t i until noted = record {
  others = λ l there differ.
      let w = place_of lives l there in
      element (ended i until lives) w.0 l (ended_other i until lives w.0 (λ same. differ (ap suc (touch_at l w.0 w.1 same))) ∙ w.1);
  own = λ l there same.
      let w = place_of lives l there in
      let here : w.0 ≡ i = place_at l w.0 w.1 (omega (arith, same)) in
      element (ended i until lives) i (shortened until l) (ended_here i until lives l (ap (slice_get lives) (sym here) ∙ w.1));
  only = λ m there.
      let w = place_of (ended i until lives) m there in
      elim (ended_cases i until lives w.0 m w.1) [
        | inl (l, same, at, is) ↦ inr (l, element lives w.0 l at, ap suc (touch_at l w.0 at same), is)
        | inr (differ, at) ↦ inl (element lives w.0 m at, λ same. differ (place_at m w.0 at (omega (arith, same))))
      ];
  once = once_ended i until lives;
}
  where
    touch_at : (l : Life) (k : ℕ) → slice_get lives k ≡ Some l → k ≡ i → l.touch ≡ t
    touch_at l k at same =
        let w = placed.there t i noted in
        let both : Some w.0 ≡ Some l = sym w.1 ∙ ap (slice_get lives) (sym same) ∙ at in
        let one : w.0 ≡ l = cc in
        ap (λ (x : Life). x.touch) (sym one) ∙ w.2

    place_at : (l : Life) (k : ℕ) → slice_get lives k ≡ Some l → l.touch ≡ t → k ≡ i
    place_at l k at same =
        let both : Some (suc k) ≡ Some (suc i) = sym (placed.here k l at) ∙ ap (slice_get places) same ∙ noted in cc

pub placed_ended : (lives : List Life) (places : List ℕ) (i until : ℕ) → ArePlaced lives places → ArePlaced (ended i until lives) places
placed_ended lives places i until placed = record {
  here = λ k m at. elim (ended_cases i until lives k m at) [
    | inl (l, same, was, is) ↦ ap (slice_get places) (ap (λ (x : Life). x.touch) is) ∙ placed.here k l was
    | inr (differ, was) ↦ placed.here k m was
  ];
  there = λ t k noted. by_place t k (placed.there t k noted);
}
  where
    by_place : (t k : ℕ) → (l : Life) × (slice_get lives k ≡ Some l) × (l.touch ≡ t)
        → (l : Life) × (slice_get (ended i until lives) k ≡ Some l) × (l.touch ≡ t)
    by_place t k (l, at, of) = elim (cases_lt k i) [
      | inl lt ↦ (l, ended_other i until lives k (λ same. omega (arith, same, lt)) ∙ at, of)
      | inr ge ↦ elim (cases_lt i k) [
        | inl lt ↦ (l, ended_other i until lives k (λ same. omega (arith, same, lt)) ∙ at, of)
        | inr le ↦
            let same : k ≡ i = omega (arith, ge, le) in
            (shortened until l, ap (slice_get (ended i until lives)) same ∙ ended_here i until lives l (ap (slice_get lives) (sym same) ∙ at), of)
      ]
    ]

-- ---- a life that comes

pub placed_none : ArePlaced [] []
placed_none = record { here = λ i l at. absurd cc; there = λ t i noted. absurd cc }

-- of a touch without a life
pub placed_without : (lives : List Life) (places : List ℕ) → ArePlaced lives places → ArePlaced lives (places ++ 0 ∷ [])
placed_without lives places placed = record {
  here = λ i l at. slice_get-kept places (0 ∷ []) l.touch (suc i) (placed.here i l at);
  there = λ t i noted. elim (slice_get-cases places 0 t (suc i) noted) [
    | inl old ↦ placed.there t i old
    | inr new ↦ absurd (let z = new.1 in omega (arith, z))
  ];
}

pub placed_with : (lives : List Life) (places : List ℕ) (l : Life) (place : ℕ) → ArePlaced lives places → l.touch ≡ length places
    → place ≡ length lives + 1 → ArePlaced (lives ++ l ∷ []) (places ++ place ∷ [])
placed_with lives places l place placed of is = record {
  here = λ i m at. elim (slice_get-cases lives l i m at) [
    | inl old ↦ slice_get-kept places (place ∷ []) m.touch (suc i) (placed.here i m old)
    | inr new ↦
        let same : l ≡ m = new.1 in
        let touch : m.touch ≡ length places = ap (λ (x : Life). x.touch) (sym same) ∙ of in
        let number : place ≡ suc i = let e = new.0 in omega (arith, e, is) in
        ap (slice_get (places ++ place ∷ [])) touch ∙ last_one places place ∙ ap Some number
  ];
  there = λ t i noted. elim (slice_get-cases places place t (suc i) noted) [
    | inl old ↦ let w = placed.there t i old in (w.0, slice_get-kept lives (l ∷ []) i w.0 w.1, w.2)
    | inr new ↦
        let at : i ≡ length lives = let e = new.1 in omega (arith, e, is) in
        (l, ap (slice_get (lives ++ l ∷ [])) at ∙ last_one lives l, of ∙ sym new.0)
  ];
}
  where
    last_one : {X : Type 0} (xs : List X) (x : X) → slice_get (xs ++ x ∷ []) (length xs) ≡ Some x
    last_one [] x = refl
    last_one (y ∷ xs) x = last_one xs x

-- ---- a touch more

-- the touch before this one of the same tuple stands before a place
pub record IsOlder (touches : List Touch) (y : Touch) (older : ℕ) : Type 0 where
  pub there : (k : ℕ) → older ≡ suc k → (x : Touch) × (slice_get touches k ≡ Some x) × (x.tuple ≡ y.tuple)
  pub latest : (i : ℕ) (x : Touch) → slice_get touches i ≡ Some x → x.tuple ≡ y.tuple → suc i ≤ older

pub older_among : (touches more : List Touch) (y : Touch) (older : ℕ)
    → older ≡ last_place (λ x. tuple_eq x.tuple y.tuple) (touches ++ more) (length touches) → IsOlder touches y older
older_among touches more y older is = record {
  there = λ k e.
      let w = at_last_place (λ (x : Touch). tuple_eq x.tuple y.tuple) (touches ++ more) (length touches) k (sym is ∙ e) in
      (w.0, front touches more k w.0 w.3 w.1, tuple_eq-same w.0.tuple y.tuple w.2);
  latest = λ i x at same.
      subst (λ (n : ℕ). suc i ≤ n) (sym is) (reaches (λ (z : Touch). tuple_eq z.tuple y.tuple) (touches ++ more) (length touches) i x
      (slice_get_within touches i x at) (slice_get-kept touches more i x at) (rw same (tuple_eq-itself y.tuple)));
}
  where
    front : (xs ys : List Touch) (k : ℕ) (x : Touch) → k < length xs → slice_get (xs ++ ys) k ≡ Some x → slice_get xs k ≡ Some x
    front [] ys k x lt at = absurd (omega (arith, lt))
    front (z ∷ xs) ys zero x lt at = at
    front (z ∷ xs) ys (suc k) x lt at = front xs ys k x (omega (arith, lt)) at

module _ (T : List Touch) (y : Touch) (older : ℕ) (is_older : IsOlder T y older) (rising : AreRising (T ++ y ∷ [])) where
  here : slice_get (T ++ y ∷ []) (length T) ≡ Some y
  here = at_end T
    where
      at_end : (xs : List Touch) → slice_get (xs ++ y ∷ []) (length xs) ≡ Some y
      at_end [] = refl
      at_end (x ∷ xs) = at_end xs

  rises : (i : ℕ) (x : Touch) → slice_get T i ≡ Some x → x.tuple ≡ y.tuple → x.at < y.at
  rises i x at same = rising i (length T) x y (slice_get_within T i x at) (slice_get-kept T (y ∷ []) i x at) here (sym same)

  -- a touch that is the last of its tuple was so before
  last_before : (at i : ℕ) (x : Touch) → slice_get T i ≡ Some x → IsLastTouch (T ++ y ∷ []) at i x → IsLastTouch T at i x
  last_before at i x there last = record {
    here = there;
    until = last.until;
    adds = last.adds;
    last = λ j z later at_j same. last.last j z later (slice_get-kept T (y ∷ []) j z at_j) same;
  }

  -- and stays so, up to this one where it is of its tuple
  last_still : (at i : ℕ) (x : Touch) → IsLastTouch T at i x → (y.tuple ≡ x.tuple → at < y.at) → IsLastTouch (T ++ y ∷ []) at i x
  last_still at i x last own = record {
    here = slice_get-kept T (y ∷ []) i x last.here;
    until = last.until;
    adds = last.adds;
    last = λ j z later at_j same. elim (slice_get-cases T y j z at_j) [
      | inl old ↦ last.last j z later old same
      | inr new ↦ subst (λ (w : Touch). at < w.at) new.1 (own (ap (λ (w : Touch). w.tuple) new.1 ∙ same))
    ];
  }

  module _ (lives closed : List Life) (life : Option Life) (ends : IsClosed older (y.at - 1) lives closed) where
    found_still : (mark at i : ℕ) (x : Touch) → slice_get T i ≡ Some x → (y.tuple ≡ x.tuple → at < y.at) → IsFound lives mark at i
        → IsFound closed mark at i
    found_still mark at i x there own f = elim (cases_suc) [
      | inl same ↦ record {
        life = shortened (y.at - 1) f.life;
        there = ends.own f.life f.there same;
        marked = f.marked;
        of = f.of;
        alive = shorter same;
      }
      | inr differ ↦ record { life = f.life; there = ends.others f.life f.there differ; marked = f.marked; of = f.of; alive = f.alive }
    ]
      where
        cases_suc : (suc f.life.touch ≡ older) ⊎ (¬ (suc f.life.touch ≡ older))
        cases_suc = elim (cases_lt (suc f.life.touch) older) [
          | inl lt ↦ inr (λ same. omega (arith, same, lt))
          | inr ge ↦ elim (cases_lt older (suc f.life.touch)) [
            | inl lt ↦ inr (λ same. omega (arith, same, lt))
            | inr le ↦ inl (omega (arith, ge, le))
          ]
        ]

        shorter : suc f.life.touch ≡ older → is_alive at (shortened (y.at - 1) f.life) ≡ true
        shorter same =
            let w = is_older.there f.life.touch (sym same) in
            let of = f.of in
            let both : Some w.0 ≡ Some x = sym w.1 ∙ ap (slice_get T) of ∙ there in
            let one : w.0 ≡ x = cc in
            let before = own (sym w.2 ∙ ap (λ (z : Touch). z.tuple) one) in
            let parts = and_parts (nat_le f.life.from at) (nat_le at f.life.until) f.alive in
            let until = leb-true at f.life.until parts.1 in
            rw (parts.0, le-leb at (min f.life.until (y.at - 1)) (omega (arith, until, before))) refl

    pub finds_next : (IsBy : Marking) → Finds IsBy T lives → IsLifeBy IsBy (length T) y life
        → Finds IsBy (T ++ y ∷ []) (kept closed life)
    finds_next IsBy finds of at_i at mark x g last user small by = elim (slice_get-cases T y at_i x last.here) [
      | inl old ↦
          let f = found_still mark at at_i x old (λ same. last.last (length T) y (slice_get_within T at_i x old) here same)
          (finds at_i at mark x g (last_before at at_i x old last) user small by) in
          record { life = f.life; there = kept_further closed life f.life f.there; marked = f.marked; of = f.of; alive = f.alive }
      | inr new ↦
          let same : y ≡ x = new.1 in
          subst (IsFound (kept closed life) mark at) (sym new.0)
          (found_here closed life mark at (length T) (of at mark g
          (ap (λ (z : Touch). z.live) same ∙ last.adds) (ap (λ (z : Touch). z.tuple.user) same ∙ user) small
          (let le = last.until in let times = ap (λ (z : Touch). z.at) same in omega (arith, le, times))
          (subst (λ (z : Touch). IsBy z.tuple.set g at mark) (sym same) by)))
    ]

    module _ (timely : AreTimely T lives) where
      still : (l : Life) → Contains lives l → (at : ℕ) → is_alive at l ≡ true → (suc l.touch ≡ older → at < y.at)
          → (x : Touch) × IsLastTouch (T ++ y ∷ []) at l.touch x
      still l there at alive own =
          let w = timely l there at alive in
          let x = w.0 in
          let last = w.1 in (
            x,
            last_still at l.touch x last (λ same.
                let le = is_older.latest l.touch x last.here (sym same) in
                elim (cases_lt (suc l.touch) older) [
                  | inr ge ↦ own (omega (arith, le, ge))
                  | inl lt ↦
                      let k : older ≡ suc (older - 1) = omega (arith, lt) in
                      let z = is_older.there (older - 1) k in
                      let before = last.last (older - 1) z.0 (omega (arith, lt)) z.1 (z.2 ∙ same) in
                      let up = rises (older - 1) z.0 z.1 z.2 in
                      omega (arith, before, up)
                ]),
          )

      old_ones : AreTimely (T ++ y ∷ []) closed
      old_ones m there at alive = elim (ends.only m there) [
        | inl (was, differ) ↦ still m was at alive (λ same. absurd (differ same))
        | inr (l, was, same, is) ↦
            let lives_then : is_alive at (shortened (y.at - 1) l) ≡ true = subst (λ (k : Life). is_alive at k ≡ true) is alive in
            let parts = and_parts (nat_le l.from at) (nat_le at (min l.until (y.at - 1))) lives_then in
            let until = leb-true at (min l.until (y.at - 1)) parts.1 in
            let alive_before : is_alive at l ≡ true = rw (parts.0, le-leb at l.until (omega (arith, until))) refl in
            let k : older ≡ suc l.touch = sym same in
            let z = is_older.there l.touch k in
            let up = rises l.touch z.0 z.1 z.2 in
            subst (λ (t : ℕ). (x : Touch) × IsLastTouch (T ++ y ∷ []) at t x) (ap (λ (q : Life). q.touch) (sym is))
            (still l was at alive_before (λ own. omega (arith, until, up)))
      ]

      pub timely_kept : (o : Option Life) → IfSome o (IsWithin (length T) y (2 ^ 64 - 1)) → AreTimely (T ++ y ∷ []) (kept closed o)
      timely_kept None within m there = old_ones m there
      timely_kept (Some l) within m there = elim (Contains-push_cases closed l m there) [
        | inl old ↦ old_ones m old
        | inr new ↦ subst (IsTimely (T ++ y ∷ [])) new own
      ]
        where
          own : IsTimely (T ++ y ∷ []) l
          own at alive =
              let parts = and_parts (nat_le l.from at) (nat_le at l.until) alive in
              let from = leb-true l.from at parts.0 in
              let since = within.since in
              subst (λ (t : ℕ). (x : Touch) × IsLastTouch (T ++ y ∷ []) at t x) (sym within.of) (
                y,
                record {
                  here = here;
                  until = omega (arith, from, since);
                  adds = within.adds;
                  last = λ j z later at_j same.
                      let n = length-append T (y ∷ []) in
                      let lt = slice_get_within (T ++ y ∷ []) j z at_j in
                      absurd (omega (arith, n, lt, later));
                },
              )

    first_closed : AreOfFirst (length T) lives → AreOfFirst (length T) closed
    first_closed first = record {
      once = ends.once first.once;
      before = λ m there. elim (ends.only m there) [
        | inl (was, differ) ↦ first.before m was
        | inr (l, was, same, is) ↦
            let lt = first.before l was in
            let touch = ap (λ (q : Life). q.touch) is in
            omega (arith, lt, touch)
      ];
    }

  -- so the lives of all touches are those of one more
  pub lives_next : (IsBy : Marking) (life : Option Life) (old new : List Life) (old_places new_places : List ℕ)
      → AreLivesOf IsBy T old old_places → Takes older (y.at - 1) life old new old_places new_places
      → IsLifeBy IsBy (length T) y life → IfSome life (IsWithin (length T) y (2 ^ 64 - 1))
      → AreLivesOf IsBy (T ++ y ∷ []) new new_places
  lives_next IsBy life old new old_places new_places are takes of within = record {
    finds = subst (Finds IsBy (T ++ y ∷ [])) (sym takes.is)
        (finds_next old takes.closed life takes.ends IsBy are.finds of);
    timely = subst (AreTimely (T ++ y ∷ [])) (sym takes.is) (timely_kept old takes.closed life takes.ends are.timely life within);
    first = subst (λ (n : ℕ). AreOfFirst n new) (sym count)
        (subst (AreOfFirst (length T + 1)) (sym takes.is)
        (of_first_next (length T) takes.closed life (first_closed old takes.closed life takes.ends are.first) (touch_of life within)));
    placed = takes.placed;
    counted = let n = takes.counted in let m = are.counted in omega (arith, n, m, count);
  }
    where
      count : length (T ++ y ∷ []) ≡ length T + 1
      count = length-append T (y ∷ [])

      touch_of : (o : Option Life) → IfSome o (IsWithin (length T) y (2 ^ 64 - 1)) → IfSome o (λ l. l.touch ≡ length T)
      touch_of None within = tt
      touch_of (Some l) within = within.of

-- ---- the index

lives_of_none : (IsBy : Marking) (lives : List Life) (places : List ℕ) → lives ≡ [] → places ≡ [] → AreLivesOf IsBy [] lives places
lives_of_none IsBy lives places none nowhere = rw (none, nowhere) (record {
  finds = λ i at mark x g last user small by. let h = last.here in absurd cc;
  timely = λ l there. absurd (let less = there.1 in omega (arith, less));
  first = of_first_none;
  placed = placed_none;
  counted = refl;
})

-- of which no touch was taken
pub ready_none : (ds : List Declaration) (touches : List Touch) (v : IndexValue) → v.own ≡ [] → v.own_places ≡ [] → v.through ≡ []
    → v.through_places ≡ [] → v.objects ≡ [] → v.object_places ≡ [] → v.declared ≡ length ds → v.is_timed ≡ false
    → IsReady ds touches v
ready_none ds touches v own own_at through through_at objects objects_at declared timed = record {
  declared = declared;
  few = let n = ap length own_at in omega (arith, n);
  grown = subst (λ (T : List Touch). IsGrownTo ds T v) (sym none_taken) (record {
    own = lives_of_none (IsMark ds Own) v.own v.own_places own own_at;
    through = lives_of_none (IsMarkThrough ds) v.through v.through_places through through_at;
    objects = lives_of_none (IsMark ds Object) v.objects v.object_places objects objects_at;
  });
  untimed = timed;
}
  where
    none_taken : take (length v.own_places) touches ≡ []
    none_taken = ap (λ (ps : List ℕ). take (length ps) touches) own_at

take_whole : {X : Type 0} (xs : List X) (n : ℕ) → n ≡ length xs → take n xs ≡ xs
take_whole xs n is = ap (λ (k : ℕ). take k xs) is ∙ take-length xs

-- of the rules that it began with
pub ready_still : (ds : List Declaration) (touches : List Touch) (v : IndexValue) → IsBegun ds touches v → v.declared ≡ length ds
    → IsReady ds touches v
ready_still ds touches v b declared = record {
  declared = declared;
  few = b.few;
  grown = subst (λ (rules : List Declaration). IsGrownTo rules (taken_of touches v) v) (take_whole ds v.declared declared) b.grown;
  untimed = b.untimed;
}

-- a log that has no more rules begins so
pub ready_begun : (ds : List Declaration) (touches : List Touch) (v : IndexValue) → IsReady ds touches v → IsBegun ds touches v
ready_begun ds touches v r = record {
  few_rules = let same = r.declared in omega (arith, same);
  few = r.few;
  grown = subst (λ (rules : List Declaration). IsGrownTo rules (taken_of touches v) v) (sym (take_whole ds v.declared r.declared)) r.grown;
  untimed = r.untimed;
}

-- where all was taken, a further one may begin so
pub begun_whole : (ds : List Declaration) (touches : List Touch) (v : IndexValue) → v.declared ≡ length ds
    → IsGrownTo ds (taken_of touches v) v → length v.own_places ≡ length touches → v.is_timed ≡ false → IsBegun ds touches v
begun_whole ds touches v declared grown all timed = record {
  few_rules = omega (arith, declared);
  few = omega (arith, all);
  grown = subst (λ (rules : List Declaration). IsGrownTo rules (taken_of touches v) v) (sym (take_whole ds v.declared declared)) grown;
  untimed = timed;
}

-- what is of all declarations is of the first of them
pub begun_ready : (ds : List Declaration) (touches : List Touch) (v : IndexValue) → IsReady ds touches v → IsBegun ds touches v
begun_ready ds touches v r = record {
  few_rules = let all = r.declared in omega (arith, all);
  few = r.few;
  grown = subst (λ (rules : List Declaration). IsGrownTo rules (taken_of touches v) v) (sym (take_whole ds v.declared r.declared)) r.grown;
  untimed = r.untimed;
}

-- where all was taken, it is an index
pub whole_of_grown : (ds : List Declaration) (commits : List Commit) (v : IndexValue) → IsGrownTo ds (changelog commits) v → v.is_timed ≡ false
    → IsWhole ds commits v
whole_of_grown ds commits v grown timed = record {
  own = λ i at mark x g last user crowded small by. grown.own.finds i at mark x g last user small by;
  own_exact = record { timely = grown.own.timely; once = grown.own.first.once };
  through = λ i at n x g last user crowded small number.
      let f = grown.through.finds i at (pair_mark (set_mark x.tuple.set) n) x g last user small (n, number, refl) in record {
        touch = i;
        is = x;
        of = g;
        last = last;
        stored = of_user x.tuple g user;
        one_namespace = refl;
        one_id = refl;
        found = f;
      };
  through_exact = record { timely = grown.through.timely; once = grown.through.first.once };
  objects = λ i at mark x g last user crowded small by. grown.objects.finds i at mark x g last user small by;
  timed = λ on. absurd (let z : true ≡ false = sym on ∙ timed in cc);
}
  where
    of_user : (t : TupleValue) (g : SetValue) → t.user ≡ Set g → t ≡ tuple_of t.set (Set g)
    of_user t g user = ap (λ (u : User). record t { user = u }) user

pub whole_of_taken : (ds : List Declaration) (commits : List Commit) (v : IndexValue) → IsGrownTo ds (taken_of (changelog commits) v) v
    → length v.own_places ≡ length (changelog commits) → v.is_timed ≡ false → IsWhole ds commits v
whole_of_taken ds commits v grown all timed =
    whole_of_grown ds commits v (subst (λ (T : List Touch). IsGrownTo ds T v) (take_whole (changelog commits) (length v.own_places) all) grown) timed

-- a longer log begins so, too
pub growing_longer : (ds more_ds : List Declaration) (commits more : List Commit) (v : IndexValue) → IsGrowing ds commits v
    → IsGrowing (ds ++ more_ds) (commits ++ more) v
growing_longer ds more_ds commits more v growing grows =
    let b = growing grows in
    let same : changelog (commits ++ more) ≡ changelog commits ++ changelog more = flat_map-append touches commits more in
    record {
      few_rules = let le = b.few_rules in let n = length-append ds more_ds in omega (arith, le, n);
      few = let le = b.few in let n = length-append (changelog commits) (changelog more) in let m = ap length same in omega (arith, le, n, m);
      grown = subst (λ (rules : List Declaration). IsGrownTo rules (taken_of (changelog (commits ++ more)) v) v) (sym (take_front ds more_ds v.declared b.few_rules))
          (subst (λ (T : List Touch). IsGrownTo (take v.declared ds) T v) (sym (ap (take (length v.own_places)) same
          ∙ take_front (changelog commits) (changelog more) (length v.own_places) b.few)) b.grown);
      untimed = b.untimed;
    }
  where
    take_front : {X : Type 0} (xs ys : List X) (n : ℕ) → n ≤ length xs → take n (xs ++ ys) ≡ take n xs
    take_front xs ys zero le = refl
    take_front [] ys (suc n) le = absurd (omega (arith, le))
    take_front (x ∷ xs) ys (suc n) le = ap (λ (zs : List _). x ∷ zs) (take_front xs ys n (omega (arith, le)))

-- ---- the next touch of a log

taken_long : {X : Type 0} (xs : List X) (n : ℕ) (y : X) → slice_get xs n ≡ Some y → length (take n xs) ≡ n
taken_long [] n y at = absurd cc
taken_long (x ∷ xs) zero y at = refl
taken_long (x ∷ xs) (suc n) y at = ap suc (taken_long xs n y at)

taken_next : {X : Type 0} (xs : List X) (n : ℕ) (y : X) → slice_get xs n ≡ Some y → take (suc n) xs ≡ take n xs ++ y ∷ []
taken_next [] n y at = absurd cc
taken_next {X} (x ∷ xs) zero y at = let same : x ≡ y = cc in ap (λ (z : X). z ∷ []) same
taken_next {X} (x ∷ xs) (suc n) y at = ap (λ (zs : List X). x ∷ zs) (taken_next xs n y at)

rest_of : {X : Type 0} (xs : List X) (n : ℕ) → (rest : List X) × (xs ≡ take n xs ++ rest)
rest_of xs zero = (xs, refl)
rest_of [] (suc n) = ([], refl)
rest_of {X} (x ∷ xs) (suc n) = let w = rest_of xs n in (w.0, ap (λ (zs : List X). x ∷ zs) w.1)

module _ (ds : List Declaration) (touches : List Touch) (v w : IndexValue) (y : Touch) (older until : ℕ)
    (next : slice_get touches (length v.own_places) ≡ Some y)
    (is : older ≡ last_place (λ x. tuple_eq x.tuple y.tuple) touches (length v.own_places)) (rising : AreRising touches)
    (ends : until ≡ y.at - 1) where
  abbrev T : List Touch
  T = taken_of touches v

  many : length T ≡ length v.own_places
  many = taken_long touches (length v.own_places) y next

  split : (rest : List Touch) × (touches ≡ T ++ rest)
  split = rest_of touches (length v.own_places)

  split_next : (rest : List Touch) × (touches ≡ (T ++ y ∷ []) ++ rest)
  split_next =
      let r : (rest : List Touch) × (touches ≡ take (suc (length v.own_places)) touches ++ rest) =
      rest_of touches (suc (length v.own_places)) in
      (r.0, r.1 ∙ ap (λ (zs : List Touch). zs ++ r.0) (taken_next touches (length v.own_places) y next))

  older_here : IsOlder T y older
  older_here = older_among T split.0 y older (is ∙ ap (λ (n : ℕ). last_place (λ (x : Touch). tuple_eq x.tuple y.tuple) touches n) (sym many)
      ∙ ap (λ (xs : List Touch). last_place (λ (x : Touch). tuple_eq x.tuple y.tuple) xs (length T)) split.1)

  rising_here : AreRising (T ++ y ∷ [])
  rising_here i j x z before at_i at_j same = rising i j x z before (there i x at_i) (there j z at_j) same
    where
      there : (k : ℕ) (x : Touch) → slice_get (T ++ y ∷ []) k ≡ Some x → slice_get touches k ≡ Some x
      there k x at = ap (λ (xs : List Touch). slice_get xs k) split_next.1 ∙ slice_get-kept (T ++ y ∷ []) split_next.0 k x at

  next_of : (IsBy : Marking) (life : Option Life) (old new : List Life) (old_places new_places : List ℕ)
      → AreLivesOf IsBy T old old_places → Takes older until life old new old_places new_places
      → IsLifeBy IsBy (length v.own_places) y life → IfSome life (IsWithin (length v.own_places) y (2 ^ 64 - 1))
      → AreLivesOf IsBy (T ++ y ∷ []) new new_places
  next_of IsBy life old new old_places new_places are takes of within =
      lives_next T y older older_here rising_here IsBy life old new old_places new_places are
      (subst (λ (u : ℕ). Takes older u life old new old_places new_places) ends takes)
      (subst (λ (n : ℕ). IsLifeBy IsBy n y life) (sym many) of)
      (subst (λ (n : ℕ). IfSome life (IsWithin n y (2 ^ 64 - 1))) (sym many) within)

  pub grown_next : (own through object : Option Life) → IsGrownTo ds T v
      → Takes older until own v.own w.own v.own_places w.own_places
      → Takes older until through v.through w.through v.through_places w.through_places
      → Takes older until object v.objects w.objects v.object_places w.object_places
      → IsLifeBy (IsMark ds Own) (length v.own_places) y own → IsLifeBy (IsMarkThrough ds) (length v.own_places) y through
      → IsLifeBy (IsMark ds Object) (length v.own_places) y object
      → IfSome own (IsWithin (length v.own_places) y (2 ^ 64 - 1)) → IfSome through (IsWithin (length v.own_places) y (2 ^ 64 - 1))
      → IfSome object (IsWithin (length v.own_places) y (2 ^ 64 - 1)) → IsGrownTo ds (taken_of touches w) w
  grown_next own through object grown takes_own takes_through takes_object of_own of_through of_object in_own in_through in_object =
      subst (λ (xs : List Touch). IsGrownTo ds xs w) (sym taken_now) (record {
        own = next_of (IsMark ds Own) own v.own w.own v.own_places w.own_places grown.own takes_own of_own in_own;
        through = next_of (IsMarkThrough ds) through v.through w.through v.through_places w.through_places grown.through takes_through
            of_through in_through;
        objects = next_of (IsMark ds Object) object v.objects w.objects v.object_places w.object_places grown.objects takes_object
            of_object in_object;
      })
    where
      taken_now : taken_of touches w ≡ T ++ y ∷ []
      taken_now =
          let more : length w.own_places ≡ suc (length v.own_places) = let n = takes_own.counted in omega (arith, n) in
          ap (λ (n : ℕ). take n touches) more ∙ taken_next touches (length v.own_places) y next
