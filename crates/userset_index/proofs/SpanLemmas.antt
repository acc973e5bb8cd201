-- Lives in a row, and what their spans bound.
use Rattle.std.proofs.Common.{◌≡◌, ℕ, zero, suc, ◌+◌, ◌-◌, ◌<◌, ◌≤◌, Bool, true, false, ◌&&◌, cond, List, [], ◌∷◌, ◌++◌, length, map, refl, sym, ◌∙◌, ap, subst, None, Some, ◌⊎◌, inl, inr, arith, nat_eq, leb}
use Rattle.std.specs.Prelude.{slice_get}
use Rattle.std.specs.Bool.{then_some}
use Rattle.std.proofs.Math.Nat.{eq-or-lt_of_le}
use Rattle.std.proofs.lemmas.Bool.{cases_lt, eqb-true, eq-eqb, lt-leb}
use Rattle.std.proofs.lemmas.List.{length-map, map-append}
use Rattle.std.proofs.lemmas.Option.{slice_get_within}
use Rattle.marks.specs.Placed.{passes, last_place, newest_first}
use Rattle.version_chains.proofs.ArenaLemmas.{item_of}
use Rattle.marks.proofs.PlacedLemmas.{and-left, at_last_place, last_place-here, last_place-map, last_place-within, slice_get-cases, slice_get-kept, newest_first-here, newest_first-not_here, newest_first-past}
use Rattle.marks.proofs.WalkLemmas.{left_older}
use Rattle.userset_index.specs.Lives.{is_alive, is_sought, touches_alive}
use Rattle.userset_index.specs.Spans.{AreBounded, IsBounded, IsPlaceOf, IsSpanAt, Steps, found_first, life_of, lives_of, marks_of}
use Rattle.userset_index.specs.declared.life.Life.{Life}
use Rattle.userset_index.specs.declared.spans.Span.{Span}

-- behind the last place that passes none does
pub last_place-behind : {X : Type 0} (p : X → Bool) (xs : List X) (n k : ℕ) (x : X) → last_place p xs n ≤ k → k < n → slice_get xs k ≡ Some x → p x ≡ false
last_place-behind p xs zero k x h less is = absurd (omega (arith, less))
last_place-behind {X} p xs (suc n) k x h less is =
    by_place (eq-or-lt_of_le (let near : k ≤ n = omega (arith, less) in near)) (λ l. last_place-behind p xs n k x (below (passes p (slice_get xs n)) h) l is)
  where
    below : (b : Bool) → cond b (suc n) (last_place p xs n) ≤ k → last_place p xs n ≤ k
    below true past = absurd (omega (arith, past, less))
    below false h = h

    here : k ≡ n → (b : Bool) → p x ≡ b → b ≡ false
    here e false t = refl
    here e true t =
        let at : last_place p xs (suc n) ≡ suc n = last_place-here p xs n x (subst (λ (j : ℕ). slice_get xs j ≡ Some x) e is) t in
        absurd (omega (arith, at, h, e))

    by_place : (k ≡ n) ⊎ (k < n) → (k < n → p x ≡ false) → p x ≡ false
    by_place (inl e) before = here e (p x) refl
    by_place (inr l) before = before l

-- the last place of a mark
module _ (mark : ℕ) (lives : List Life) (place : ℕ) (is : place ≡ last_place (nat_eq mark) (marks_of lives) (length lives)) where
  pub of_mark : IsPlaceOf mark lives place
  of_mark i e =
      let w = at_last_place (λ l. nat_eq mark l.mark) lives (length lives) i (sym (last_place-map (λ (l : Life). l.mark) (nat_eq mark) lives (length lives)) ∙ sym is ∙ e) in
      (w.0, w.1, sym (eqb-true mark w.0.mark w.2))

  pub mark_within : place ≤ length lives
  mark_within = let w = last_place-within (nat_eq mark) (marks_of lives) (length lives) in omega (arith, w, is)

  -- none of the mark stands behind it
  pub none_behind : {G : Type 0} (k : ℕ) (l : Life) → place ≤ k → slice_get lives k ≡ Some l → l.mark ≡ mark → G
  none_behind k l behind here same =
      let of : last_place (λ (l : Life). nat_eq mark l.mark) lives (length lives) ≤ k = subst (λ (n : ℕ). n ≤ k) (is ∙ last_place-map (λ (l : Life). l.mark) (nat_eq mark) lives (length lives)) behind in
      let no = last_place-behind (λ (l : Life). nat_eq mark l.mark) lives (length lives) k l of (slice_get_within lives k l here) here in
      absurd (let z : true ≡ false = sym (eq-eqb mark l.mark (sym same)) ∙ no in cc)

pub place_kept : (mark : ℕ) (lives more : List Life) (place : ℕ) → IsPlaceOf mark lives place → IsPlaceOf mark (lives ++ more) place
place_kept mark lives more place of i e = let w = of i e in (w.0, slice_get-kept lives more i w.0 w.1, w.2)

-- one more life, whose bounds hold for it and for those of its mark behind its jump
pub bounded_behind : (lives : List Life) (s : Span) → s.jump ≤ length lives → IsPlaceOf s.mark lives s.jump
    → (s.first ≤ s.from) × (s.until ≤ s.last)
    → ((k : ℕ) (l : Life) → s.jump ≤ k → slice_get lives k ≡ Some l → l.mark ≡ s.mark → (s.first ≤ l.from) × (l.until ≤ s.last))
    → IsBounded (lives ++ life_of s ∷ []) (length lives) s
bounded_behind lives s back of own others = record {
  back = back;
  of = place_kept s.mark lives (life_of s ∷ []) s.jump of;
  bounds = λ k l behind near here same. elim (slice_get-cases lives (life_of s) k l here) [
    | inl old ↦ others k l behind old same
    | inr new ↦ subst (λ (x : Life). (s.first ≤ x.from) × (x.until ≤ s.last)) new.1 own
  ];
}

pub more_bounded : (spans : List Span) (s : Span) → AreBounded spans → IsBounded (lives_of spans ++ life_of s ∷ []) (length spans) s → AreBounded (spans ++ s ∷ [])
more_bounded spans s are is i t here =
    subst (λ (lives : List Life). IsBounded lives i t) (sym (map-append life_of spans (s ∷ []))) (elim (slice_get-cases spans s i t here) [
      | inl old ↦ kept (are i t old) (slice_get_within spans i t old)
      | inr new ↦ subst (λ (j : ℕ). IsBounded (lives_of spans ++ life_of s ∷ []) j t) (sym new.0) (subst (IsBounded (lives_of spans ++ life_of s ∷ []) (length spans)) new.1 is)
    ])
  where
    old_one : (k : ℕ) (l : Life) → k ≤ i → i < length spans → slice_get (lives_of spans ++ life_of s ∷ []) k ≡ Some l → slice_get (lives_of spans) k ≡ Some l
    old_one k l near less here = elim (slice_get-cases (lives_of spans) (life_of s) k l here) [
      | inl old ↦ old
      | inr new ↦ absurd (let e = new.0 in let long = length-map spans life_of in omega (arith, e, long, near, less))
    ]

    kept : IsBounded (lives_of spans) i t → i < length spans → IsBounded (lives_of spans ++ life_of s ∷ []) i t
    kept b less = record {
      back = b.back;
      of = place_kept t.mark (lives_of spans) (life_of s ∷ []) t.jump b.of;
      bounds = λ k l behind near here same. b.bounds k l behind near (old_one k l near less here) same;
    }

-- a span by its place
pub life_at : (spans : List Span) (place : ℕ) (s : Span) → (at : IsSpanAt spans place s) → slice_get (lives_of spans) at.0 ≡ Some (life_of s)
life_at spans place s at = item_of life_of spans at.0 s at.2

-- the mark of a span at a place of a mark
pub mark_at : (mark : ℕ) (spans : List Span) (place : ℕ) (s : Span) → IsPlaceOf mark (lives_of spans) place → IsSpanAt spans place s → s.mark ≡ mark
mark_at mark spans place s of at =
    let w = of at.0 at.1 in
    let same : Some (life_of s) ≡ Some w.0 = sym (life_at spans place s at) ∙ w.1 in
    let e : life_of s ≡ w.0 = cc in
    ap (λ (l : Life). l.mark) e ∙ w.2

-- a life that goes behind the others
module _ (spans : List Span) (life : Life) (older : ℕ) (is : older ≡ last_place (nat_eq life.mark) (marks_of (lives_of spans)) (length spans)) where
  long : length (lives_of spans) ≡ length spans
  long = length-map spans life_of

  newest : older ≡ last_place (nat_eq life.mark) (marks_of (lives_of spans)) (length (lives_of spans))
  newest = is ∙ ap (last_place (nat_eq life.mark) (marks_of (lives_of spans))) (sym long)

  -- with a jump to the one before it
  pub bounded_alone : IsBounded (lives_of spans ++ life ∷ []) (length spans) (record { mark = life.mark; from = life.from; until = life.until; first = life.from; last = life.until; touch = life.touch; jump = older })
  bounded_alone =
      subst (λ (n : ℕ). IsBounded (lives_of spans ++ life ∷ []) n (record { mark = life.mark; from = life.from; until = life.until; first = life.from; last = life.until; touch = life.touch; jump = older })) long
      (bounded_behind (lives_of spans) (record { mark = life.mark; from = life.from; until = life.until; first = life.from; last = life.until; touch = life.touch; jump = older })
      (mark_within life.mark (lives_of spans) older newest) (of_mark life.mark (lives_of spans) older newest) (omega arith, omega arith)
      (λ k l behind here same. none_behind life.mark (lives_of spans) older newest k l behind here same))

  -- with the jump of the one to which the one before it jumps
  module _ (are : AreBounded spans) (near far : Span) (at_near : IsSpanAt spans older near) (at_far : IsSpanAt spans near.jump far)
      (first last : ℕ) (firsts : (first ≤ life.from) × (first ≤ near.first) × (first ≤ far.first)) (lasts : (life.until ≤ last) × (near.last ≤ last) × (far.last ≤ last)) where
    near_is : IsBounded (lives_of spans) at_near.0 near
    near_is = are at_near.0 near at_near.2

    far_is : IsBounded (lives_of spans) at_far.0 far
    far_is = are at_far.0 far at_far.2

    near_mark : near.mark ≡ life.mark
    near_mark = mark_at life.mark spans older near (of_mark life.mark (lives_of spans) older newest) at_near

    far_mark : far.mark ≡ life.mark
    far_mark = mark_at near.mark spans near.jump far near_is.of at_far ∙ near_mark

    wider : (near_first near_last : ℕ) (l : Life) → first ≤ near_first → near_last ≤ last → (near_first ≤ l.from) × (l.until ≤ near_last) → (first ≤ l.from) × (l.until ≤ last)
    wider near_first near_last l a b h = let f = h.0 in let t = h.1 in (omega (arith, a, f), omega (arith, b, t))

    others : (k : ℕ) (l : Life) → far.jump ≤ k → slice_get (lives_of spans) k ≡ Some l → l.mark ≡ life.mark → (first ≤ l.from) × (l.until ≤ last)
    others k l behind here same = elim (cases_lt k older) [
      | inr past ↦ none_behind life.mark (lives_of spans) older newest k l past here same
      | inl before ↦ elim (cases_lt k near.jump) [
        | inr nearer ↦ wider near.first near.last l firsts.1 lasts.1 (near_is.bounds k l nearer (let e = at_near.1 in omega (arith, e, before)) here (same ∙ sym near_mark))
        | inl further ↦ wider far.first far.last l firsts.2 lasts.2 (far_is.bounds k l behind (let e = at_far.1 in omega (arith, e, further)) here (same ∙ sym far_mark))
      ]
    ]

    pub bounded_joined : IsBounded (lives_of spans ++ life ∷ []) (length spans) (record { mark = life.mark; from = life.from; until = life.until; first = first; last = last; touch = life.touch; jump = far.jump })
    bounded_joined =
        let within = slice_get_within spans at_far.0 far at_far.2 in
        let back = far_is.back in
        subst (λ (n : ℕ). IsBounded (lives_of spans ++ life ∷ []) n (record { mark = life.mark; from = life.from; until = life.until; first = first; last = last; touch = life.touch; jump = far.jump })) long
        (bounded_behind (lives_of spans) (record { mark = life.mark; from = life.from; until = life.until; first = first; last = last; touch = life.touch; jump = far.jump })
        (omega (arith, back, within, long)) (subst (λ (m : ℕ). IsPlaceOf m (lives_of spans) far.jump) far_mark far_is.of) (firsts.0, lasts.0) others)

-- ---- steps of a walk

sought_not : (mark at : ℕ) (l : Life) → is_alive at l ≡ false → is_sought mark at l ≡ false
sought_not mark at l dead = by_test (nat_eq mark l.mark)
  where
    by_test : (b : Bool) → (b && is_alive at l) ≡ false
    by_test true = dead
    by_test false = refl

sought_other : (mark at : ℕ) (l : Life) → nat_eq mark l.mark ≡ false → is_sought mark at l ≡ false
sought_other mark at l other = rw other refl

not_both : (a b : Bool) → a ≡ false → (a && b) ≡ false
not_both true b h = absurd cc
not_both false b h = refl

not_second : (a b : Bool) → b ≡ false → (a && b) ≡ false
not_second true b h = h
not_second false b h = refl

-- where the timestamp is outside of the bounds, all up to the jump is passed over
pub steps_past : (lives : List Life) (i : ℕ) (s : Span) (at : ℕ) → IsBounded lives i s → (at < s.first) ⊎ (s.last < at)
    → Steps s.mark at lives i (record { place = s.jump; found = None })
steps_past lives i s at b out = record {
  nearer = b.back;
  of = b.of;
  same =
      let back = b.back in
      let long : s.jump + (suc i - s.jump) ≡ suc i = omega (arith, back) in
      ap (map (λ (l : Life). l.touch))
      (ap (newest_first (is_sought s.mark at) lives) (sym long)
      ∙ newest_first-past (is_sought s.mark at) lives s.jump (suc i - s.jump)
      (λ k l behind near here. none k l behind (let n : k ≤ i = omega (arith, near, long) in n) here (nat_eq s.mark l.mark) refl));
}
  where
    none : (k : ℕ) (l : Life) → s.jump ≤ k → k ≤ i → slice_get lives k ≡ Some l → (b : Bool) → nat_eq s.mark l.mark ≡ b → is_sought s.mark at l ≡ false
    none k l behind near here false t = sought_other s.mark at l t
    none k l behind near here true t =
        let bounds = b.bounds k l behind near here (sym (eqb-true s.mark l.mark t)) in
        let first = bounds.0 in
        let last = bounds.1 in
        sought_not s.mark at l (elim out [
          | inl early ↦ not_both (leb l.from at) (leb at l.until) (lt-leb l.from at (omega (arith, early, first)))
          | inr late ↦ not_second (leb l.from at) (leb at l.until) (lt-leb at l.until (omega (arith, late, last)))
        ])

-- else the walk goes on to the life before it with its mark
pub steps_on : (lives : List Life) (i : ℕ) (l : Life) (at place : ℕ) → slice_get lives i ≡ Some l → place ≡ last_place (nat_eq l.mark) (marks_of lives) i
    → Steps l.mark at lives i (record { place = place; found = then_some (is_alive at l) l.touch })
steps_on lives i l at place here older = record {
  nearer = let w = last_place-within (nat_eq l.mark) (marks_of lives) i in omega (arith, w, older);
  of = λ k e.
      let w = at_last_place (λ (x : Life). nat_eq l.mark x.mark) lives i k (sym by_lives ∙ e) in
      (w.0, w.1, sym (eqb-true l.mark w.0.mark w.2));
  same = by_test (is_alive at l) refl;
}
  where
    by_lives : place ≡ last_place (λ (x : Life). nat_eq l.mark x.mark) lives i
    by_lives = older ∙ last_place-map (λ (x : Life). x.mark) (nat_eq l.mark) lives i

    further : newest_first (is_sought l.mark at) lives i ≡ newest_first (is_sought l.mark at) lives place
    further = left_older (λ (x : Life). nat_eq l.mark x.mark) (is_sought l.mark at) (λ x t. and-left (nat_eq l.mark x.mark) (is_alive at x) t) lives i place by_lives

    own : nat_eq l.mark l.mark ≡ true
    own = eq-eqb l.mark l.mark refl

    by_test : (b : Bool) → is_alive at l ≡ b → touches_alive l.mark at lives (suc i) ≡ found_first (then_some (is_alive at l) l.touch) (touches_alive l.mark at lives place)
    by_test true t =
        ap (map (λ (x : Life). x.touch)) (newest_first-here (is_sought l.mark at) lives i l here (rw (own, t) refl) ∙ ap (λ (xs : List Life). l ∷ xs) further)
        ∙ ap (λ (b : Bool). found_first (then_some b l.touch) (touches_alive l.mark at lives place)) (sym t)
    by_test false t =
        ap (map (λ (x : Life). x.touch)) (newest_first-not_here (is_sought l.mark at) lives i l here (sought_not l.mark at l t) ∙ further)
        ∙ ap (λ (b : Bool). found_first (then_some b l.touch) (touches_alive l.mark at lives place)) (sym t)

-- a walk that begins at the newest life of a mark meets all that are sought
pub alive_newest : (mark at : ℕ) (lives : List Life) (place : ℕ) → place ≡ last_place (nat_eq mark) (marks_of lives) (length lives)
    → touches_alive mark at lives place ≡ touches_alive mark at lives (length lives)
alive_newest mark at lives place is =
    ap (map (λ (l : Life). l.touch))
    (sym (left_older (λ (l : Life). nat_eq mark l.mark) (is_sought mark at) (λ l t. and-left (nat_eq mark l.mark) (is_alive at l) t) lives (length lives) place
    (is ∙ last_place-map (λ (l : Life). l.mark) (nat_eq mark) lives (length lives))))

-- the newest place of a mark, by the links of the lives
pub newest_of : (mark : ℕ) (links : List ℕ) (lives : List Life) (place : ℕ) → links ≡ marks_of lives → place ≡ last_place (nat_eq mark) links (length links)
    → place ≡ last_place (nat_eq mark) (marks_of lives) (length lives)
newest_of mark links lives place linked is =
    is
    ∙ ap (λ (ms : List ℕ). last_place (nat_eq mark) ms (length ms)) linked
    ∙ ap (last_place (nat_eq mark) (marks_of lives)) (length-map lives (λ (l : Life). l.mark))
