-- A life that ends, and what bounds it.
use Rattle.std.proofs.Common.{◌≡◌, ℕ, zero, suc, ◌<◌, ◌≤◌, ◌⊎◌, inl, inr, min, true, false, List, [], ◌∷◌, length, refl, sym, ◌∙◌, ap, subst, Some, arith, nat_eq}
use Rattle.std.specs.Prelude.{slice_get, slice_set}
use Rattle.std.proofs.lemmas.Bool.{cases_lt, eq-eqb, eqb-true}
use Rattle.version_chains.proofs.ArenaLemmas.{item_of}
use Rattle.marks.specs.Placed.{last_place}
use Rattle.marks.proofs.PlacedLemmas.{at_last_place, last_place-map, slice_get-set}
use Rattle.userset_index.specs.Lives.{ended, shortened}
use Rattle.userset_index.specs.Spans.{AreBounded, Bounds, IsBounded, IsPlaceOf, IsSpanAt, life_of, lives_of, marks_of}
use Rattle.userset_index.specs.declared.life.Life.{Life}
use Rattle.userset_index.specs.declared.spans.Span.{Span}
use Rattle.userset_index.proofs.SpanLemmas.{last_place-behind, mark_at}

-- ---- lives

pub marks_ended : (i until : ℕ) (ls : List Life) → marks_of (ended i until ls) ≡ marks_of ls
marks_ended i until [] = refl
marks_ended zero until (l ∷ ls) = refl
marks_ended (suc i) until (l ∷ ls) = ap (λ (ms : List ℕ). l.mark ∷ ms) (marks_ended i until ls)

pub ended_past : (i until : ℕ) (ls : List Life) → length ls ≤ i → ended i until ls ≡ ls
ended_past i until [] past = refl
ended_past zero until (l ∷ ls) past = absurd (omega (arith, past))
ended_past (suc i) until (l ∷ ls) past = ap (λ (ms : List Life). l ∷ ms) (ended_past i until ls (omega (arith, past)))

pub ended_here : (i until : ℕ) (ls : List Life) (l : Life) → slice_get ls i ≡ Some l
    → slice_get (ended i until ls) i ≡ Some (shortened until l)
ended_here i until [] l here = absurd cc
ended_here zero until (x ∷ ls) l here = let same : x ≡ l = cc in ap (λ (y : Life). Some (shortened until y)) same
ended_here (suc i) until (x ∷ ls) l here = ended_here i until ls l here

pub ended_other : (i until : ℕ) (ls : List Life) (k : ℕ) → (k ≡ i → ⊥) → slice_get (ended i until ls) k ≡ slice_get ls k
ended_other i until [] k differ = refl
ended_other zero until (x ∷ ls) zero differ = absurd (differ refl)
ended_other zero until (x ∷ ls) (suc k) differ = refl
ended_other (suc i) until (x ∷ ls) zero differ = refl
ended_other (suc i) until (x ∷ ls) (suc k) differ = ended_other i until ls k (λ same. differ (ap suc same))

-- what stands at a place
pub ended_cases : (i until : ℕ) (ls : List Life) (k : ℕ) (m : Life) → slice_get (ended i until ls) k ≡ Some m
    → ((l : Life) × (k ≡ i) × (slice_get ls k ≡ Some l) × (m ≡ shortened until l)) ⊎ ((k ≡ i → ⊥) × (slice_get ls k ≡ Some m))
ended_cases i until [] k m there = absurd cc
ended_cases zero until (x ∷ ls) zero m there = inl (x, refl, refl, (let same : m ≡ shortened until x = cc in same))
ended_cases zero until (x ∷ ls) (suc k) m there = inr ((λ same. omega (arith, same)), there)
ended_cases (suc i) until (x ∷ ls) zero m there = inr ((λ same. omega (arith, same)), there)
ended_cases (suc i) until (x ∷ ls) (suc k) m there = elim (ended_cases i until ls k m there) [
  | inl (l, same, here, is) ↦ inl (l, ap suc same, here, is)
  | inr (differ, here) ↦ inr ((λ same. differ (omega (arith, same))), here)
]

-- ---- spans

abbrev pub ends_by : ℕ → Span → Span
ends_by until s = record s { until = min s.until until }

pub lives_set : (spans : List Span) (i until : ℕ) (s : Span) → slice_get spans i ≡ Some s
    → lives_of (slice_set spans i (ends_by until s)) ≡ ended i until (lives_of spans)
lives_set [] i until s here = absurd cc
lives_set (x ∷ spans) zero until s here =
    let same : x ≡ s = cc in ap (λ (y : Span). shortened until (life_of y) ∷ lives_of spans) (sym same)
lives_set (x ∷ spans) (suc i) until s here = ap (λ (ls : List Life). life_of x ∷ ls) (lives_set spans i until s here)

-- the same lives, where only the bounds differ
pub lives_bounded : (spans : List Span) (i : ℕ) (s t : Span) → slice_get spans i ≡ Some s → life_of t ≡ life_of s
    → lives_of (slice_set spans i t) ≡ lives_of spans
lives_bounded [] i s t here same = absurd cc
lives_bounded (x ∷ spans) zero s t here same =
    let is : x ≡ s = cc in ap (λ (l : Life). l ∷ lives_of spans) (same ∙ ap life_of (sym is))
lives_bounded (x ∷ spans) (suc i) s t here same = ap (λ (ls : List Life). life_of x ∷ ls) (lives_bounded spans i s t here same)

place_ended : (i until mark place : ℕ) (ls : List Life) → IsPlaceOf mark ls place → IsPlaceOf mark (ended i until ls) place
place_ended i until mark place ls of k e = by_place (of k e)
  where
    by_place : (l : Life) × (slice_get ls k ≡ Some l) × (l.mark ≡ mark)
        → (l : Life) × (slice_get (ended i until ls) k ≡ Some l) × (l.mark ≡ mark)
    by_place (l, there, marked) = elim (cases_lt k i) [
      | inl lt ↦ (l, ended_other i until ls k (λ same. omega (arith, same, lt)) ∙ there, marked)
      | inr ge ↦ elim (cases_lt i k) [
        | inl lt ↦ (l, ended_other i until ls k (λ same. omega (arith, same, lt)) ∙ there, marked)
        | inr le ↦
            let same : k ≡ i = omega (arith, ge, le) in (
              shortened until l,
              ap (slice_get (ended i until ls)) same ∙ ended_here i until ls l (ap (slice_get ls) (sym same) ∙ there),
              marked,
            )
      ]
    ]

bounded_ended : (i until j : ℕ) (ls : List Life) (s : Span) → IsBounded ls j s → IsBounded (ended i until ls) j s
bounded_ended i until j ls s b = record {
  back = b.back;
  of = place_ended i until s.mark s.jump ls b.of;
  bounds = λ k m behind near there marked. elim (ended_cases i until ls k m there) [
    | inl (l, here, was, is) ↦
        let marks = ap (λ (x : Life). x.mark) is in
        let froms = ap (λ (x : Life). x.from) is in
        let untils = ap (λ (x : Life). x.until) is in
        let h = b.bounds k l behind near was (sym marks ∙ marked) in
        let first = h.0 in
        let last = h.1 in
        (omega (arith, first, froms), omega (arith, last, untils))
    | inr (differ, was) ↦ b.bounds k m behind near was marked
  ];
}

pub bounded_shorter : (spans : List Span) (i until : ℕ) (s : Span) → slice_get spans i ≡ Some s → AreBounded spans
    → AreBounded (slice_set spans i (ends_by until s))
bounded_shorter spans i until s here are j t there =
    subst (λ (ls : List Life). IsBounded ls j t) (sym (lives_set spans i until s here))
    (elim (slice_get-set spans i j t (ends_by until s) there) [
      | inl new ↦
          let b = bounded_ended i until i (lives_of spans) s (are i s here) in
          subst (λ (k : ℕ). IsBounded (ended i until (lives_of spans)) k t) (sym new.0)
          (subst (IsBounded (ended i until (lives_of spans)) i) new.1 (record { back = b.back; of = b.of; bounds = b.bounds }))
      | inr old ↦ bounded_ended i until j (lives_of spans) t (are j t old.1)
    ])

-- with other bounds for one of them
pub bounded_tighter : (spans : List Span) (i last : ℕ) (s : Span) → slice_get spans i ≡ Some s → AreBounded spans
    → Bounds spans i last → AreBounded (slice_set spans i (record s { last = last }))
bounded_tighter spans i last s here are bound j t there =
    subst (λ (ls : List Life). IsBounded ls j t) (sym (lives_bounded spans i s (record s { last = last }) here refl))
    (elim (slice_get-set spans i j t (record s { last = last }) there) [
      | inl new ↦
          let b = are i s here in
          subst (λ (k : ℕ). IsBounded (lives_of spans) k t) (sym new.0)
          (subst (IsBounded (lives_of spans) i) new.1 (record {
            back = b.back;
            of = b.of;
            bounds = λ k l behind near at marked. ((b.bounds k l behind near at marked).0, bound s k l here behind near at marked);
          }))
      | inr old ↦ are j t old.1
    ])

-- ---- bounds by those of the two parts

module _ (spans : List Span) (are : AreBounded spans) (i : ℕ) (s : Span) (at : slice_get spans i ≡ Some s) (older : ℕ)
    (is : older ≡ last_place (nat_eq s.mark) (marks_of (lives_of spans)) i) where
  by_lives : older ≡ last_place (λ (l : Life). nat_eq s.mark l.mark) (lives_of spans) i
  by_lives = is ∙ last_place-map (λ (l : Life). l.mark) (nat_eq s.mark) (lives_of spans) i

  -- none of the mark stands between it and the one before it
  between : {G : Type 0} (k : ℕ) (l : Life) → older ≤ k → k < i → slice_get (lives_of spans) k ≡ Some l → l.mark ≡ s.mark → G
  between k l behind before here marked =
      let no = last_place-behind (λ (x : Life). nat_eq s.mark x.mark) (lives_of spans) i k l
      (subst (λ (n : ℕ). n ≤ k) by_lives behind) before here in
      absurd (let z : true ≡ false = sym (eq-eqb s.mark l.mark (sym marked)) ∙ no in cc)

  own : (k : ℕ) (l : Life) → k ≡ i → slice_get (lives_of spans) k ≡ Some l → l ≡ life_of s
  own k l same here =
      let both : Some l ≡ Some (life_of s) = sym here ∙ ap (slice_get (lives_of spans)) same ∙ item_of life_of spans i s at in cc

  pub bounds_alone : s.jump ≡ older → Bounds spans i s.until
  bounds_alone jumps t k l there behind near here marked =
      let same : s ≡ t = let both : Some s ≡ Some t = sym at ∙ there in cc in
      let jump = ap (λ (x : Span). x.jump) same in
      elim (cases_lt k i) [
        | inl before ↦ between k l (omega (arith, behind, jump, jumps)) before here (marked ∙ ap (λ (x : Span). x.mark) (sym same))
        | inr past ↦ let untils = ap (λ (x : Life). x.until) (own k l (omega (arith, near, past)) here) in omega (arith, untils)
      ]

  module _ (near far : Span) (at_near : IsSpanAt spans older near) (at_far : IsSpanAt spans near.jump far) (jumps : far.jump ≡ s.jump)
      (last : ℕ) (lasts : (s.until ≤ last) × (near.last ≤ last) × (far.last ≤ last)) where
    near_is : IsBounded (lives_of spans) at_near.0 near
    near_is = are at_near.0 near at_near.2

    far_is : IsBounded (lives_of spans) at_far.0 far
    far_is = are at_far.0 far at_far.2

    near_mark : near.mark ≡ s.mark
    near_mark =
        let w = at_last_place (λ (l : Life). nat_eq s.mark l.mark) (lives_of spans) i at_near.0 (sym by_lives ∙ at_near.1) in
        let both : Some w.0 ≡ Some (life_of near) = sym w.1 ∙ item_of life_of spans at_near.0 near at_near.2 in
        let one : w.0 ≡ life_of near = cc in
        ap (λ (l : Life). l.mark) (sym one) ∙ sym (eqb-true s.mark w.0.mark w.2)

    far_mark : far.mark ≡ s.mark
    far_mark = mark_at near.mark spans near.jump far near_is.of at_far ∙ near_mark

    pub bounds_joined : Bounds spans i last
    bounds_joined t k l there behind within here marked =
        let same : s ≡ t = let both : Some s ≡ Some t = sym at ∙ there in cc in
        let jump = ap (λ (x : Span). x.jump) same in
        let of_s : l.mark ≡ s.mark = marked ∙ ap (λ (x : Span). x.mark) (sym same) in
        elim (cases_lt k i) [
          | inr past ↦
              let untils = ap (λ (x : Life). x.until) (own k l (omega (arith, within, past)) here) in
              let le = lasts.0 in
              omega (arith, untils, le)
          | inl before ↦ elim (cases_lt k older) [
            | inr behind_older ↦ between k l behind_older before here of_s
            | inl in_near ↦ elim (cases_lt k near.jump) [
              | inr nearer ↦
                  let h = (near_is.bounds k l nearer (let e = at_near.1 in omega (arith, e, in_near)) here (of_s ∙ sym near_mark)).1 in
                  let le = lasts.1 in
                  omega (arith, h, le)
              | inl further ↦
                  let h = (far_is.bounds k l (omega (arith, behind, jump, jumps)) (let e = at_far.1 in omega (arith, e, further)) here
                  (of_s ∙ sym far_mark)).1 in
                  let le = lasts.2 in
                  omega (arith, h, le)
            ]
          ]
        ]

-- the place before an index, by links
pub older_place : (spans : List Span) (links : List ℕ) (i : ℕ) (s : Span) → slice_get spans i ≡ Some s → (older : ℕ)
    → links ≡ marks_of (lives_of spans) → (slice_get links i ≡ Some s.mark → older ≡ last_place (nat_eq s.mark) links i)
    → older ≡ last_place (nat_eq s.mark) (marks_of (lives_of spans)) i
older_place spans links i s at older linked is =
    is (ap (λ (ms : List ℕ). slice_get ms i) linked
    ∙ item_of (λ (l : Life). l.mark) (lives_of spans) i (life_of s) (item_of life_of spans i s at))
    ∙ ap (λ (ms : List ℕ). last_place (nat_eq s.mark) ms i) linked
