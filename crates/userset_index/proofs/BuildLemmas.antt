-- What the passes over the changelog show.
use Rattle.std.proofs.Common.{◌≡◌, ℕ, zero, suc, true≢false, ◌+◌, ◌<◌, ◌≤◌, ◌^◌, Bool, true, false, List, [], ◌∷◌, ◌++◌, length, refl, sym, ◌∙◌, ap, subst, Option, None, Some, inl, inr, arith}
use Rattle.std.specs.Prelude.{Contains, nat_lt, slice_get, slice_set, unwrap_or, IsPermutation}
use Rattle.std.specs.List.{list_any}
use Rattle.std.proofs.Math.Nat.{eq-or-lt_of_le}
use Rattle.std.proofs.lemmas.Bool.Decides.{nat_tests}
use Rattle.std.proofs.lemmas.List.Elements.{Contains-append_left, Contains-push}
use Rattle.std.proofs.lemmas.List.Sorted.{Contains-permutation}
use Rattle.std.proofs.lemmas.Option.{slice_get_within}
use Rattle.tuple_text.specs.Order.{tuple_eq}
use Rattle.tuple_text.specs.Sets.{SetValue}
use Rattle.tuple_text.specs.declared.users.User.TheVariants.{Set}
use Rattle.tuple_text.proofs.ValueLemmas.{tuple_eq-same}
use Rattle.rewrites.proofs.Names.{by_bool, or_false}
use Rattle.namespaces.specs.Declaration.{Declaration}
use Rattle.namespaces.specs.InForce.{IsDeclaredFrom}
use Rattle.version_chains.specs.Commits.{Touch}
use Rattle.marks.specs.Marks.{set_mark}
use Rattle.marks.specs.Placed.{last_place, passes}
use Rattle.marks.proofs.PlacedLemmas.{at_last_place, length-more, slice_get-cases, slice_get-set}
use Rattle.userset_index.specs.Building.{AreSetMarks, HaveEnds, HoldsFirst, IsCrowdedLifeOf, IsEnd, IsMarkAt, IsSetMark, kept}
use Rattle.userset_index.specs.Index.{Holds, HoldsThrough, IsDeclaredAt, IsFound, IsMark, count_of, few, is_crowded}
use Rattle.userset_index.specs.Lives.{is_alive}
use Rattle.userset_index.specs.declared.life.Life.{Life}
use Rattle.userset_index.specs.declared.life.Way.{Way}
use Rattle.userset_index.proofs.EndLemmas.{last_before, last_here, last_within}

-- ---- ends

module _ (touches : List Touch) (ends : List ℕ) (have : HaveEnds touches ends) where
  -- a touch that has none after it so far
  pub ends_more : (end : ℕ) → ((at : ℕ) → end < at → at < 2 ^ 64 → ⊥) → HaveEnds touches (ends ++ end ∷ [])
  ends_more end never i x e here there = elim (slice_get-cases ends end i e there) [
    | inl old ↦ have i x e here old
    | inr new ↦ λ at late small. absurd (never at (subst (λ (n : ℕ). n < at) (sym new.1) late) small)
  ]

  -- the one before this touch of the same tuple
  pub ends_set : (y : Touch) (k end : ℕ) → slice_get touches (length ends) ≡ Some y → last_place (λ x. tuple_eq x.tuple y.tuple) touches (length ends) ≡ suc k
      → ((at : ℕ) → end < at → y.at ≤ at) → HaveEnds touches (slice_set ends k end)
  ends_set y k end now last after i x e here there = elim (slice_get-set ends k i e end there) [
    | inl new ↦ λ at late small.
        let w = at_last_place (λ (x : Touch). tuple_eq x.tuple y.tuple) touches (length ends) k last in
        let both : Some w.0 ≡ Some x = sym w.1 ∙ ap (slice_get touches) (sym new.0) ∙ here in
        let is : w.0 ≡ x = cc in
        let before : k < length ends = w.3 in
        let place : i ≡ k = new.0 in (
          length ends,
          y,
          omega (arith, before, place),
          now,
          sym (tuple_eq-same w.0.tuple y.tuple w.2) ∙ ap (λ (x : Touch). x.tuple) is,
          after at (subst (λ (n : ℕ). n < at) (sym new.1) late),
        )
    | inr old ↦ have i x e here old.1
  ]

-- ---- declarations

-- what is declared at a timestamp is so from one on that is no later
pub declared_since : (ds : List Declaration) (g : SetValue) (at : ℕ) (o : Option ℕ) → IsDeclaredFrom o g ds → IsDeclaredAt ds at g
    → (from : ℕ) × (o ≡ Some from) × (from ≤ at)
declared_since ds g at None never declared = absurd (declared (never at))
declared_since ds g at (Some from) since declared = by_bool (nat_lt at from)
    (λ t. let early : at < from = grind (arith, nat_tests) in absurd (declared ((since at).1 early)))
    (λ f. let late : from ≤ at = grind (arith, nat_tests) in (from, refl, late))

-- ---- marks

pub set_marks_none : (touches : List Touch) → AreSetMarks touches 0 []
set_marks_none touches = record { all = refl; each = λ i mark here. absurd cc }

pub set_marks_next : (touches : List Touch) (n : ℕ) (marks : List ℕ) (mark : ℕ) → AreSetMarks touches n marks → IsSetMark touches n mark
    → AreSetMarks touches (n + 1) (marks ++ mark ∷ [])
set_marks_next touches n marks mark are is =
    let more = length-more marks mark in
    let old = are.all in record {
      all = omega (arith, more, old);
      each = λ i m here. elim (slice_get-cases marks mark i m here) [
        | inl before ↦ are.each i m before
        | inr new ↦
            let place : n ≡ i = sym (new.0 ∙ are.all) in
            subst (λ (k : ℕ). IsSetMark touches k m) place (subst (IsSetMark touches n) new.1 is)
      ];
    }

-- 0 where there is none
pub set_mark_by : (touches : List Touch) (n : ℕ) (o : Option ℕ) (mark : ℕ) → mark ≡ unwrap_or o 0 → IsMarkAt touches n o → IsSetMark touches n mark
set_mark_by touches n o mark is at x here g user = is ∙ ap (λ (p : Option ℕ). unwrap_or p 0) (at x g here user)

-- ---- lives

pub kept_further : (lives : List Life) (o : Option Life) (l : Life) → Contains lives l → Contains (kept lives o) l
kept_further lives None l there = there
kept_further lives (Some m) l there = Contains-append_left lives (m ∷ []) l there

pub kept_here : (lives : List Life) (o : Option Life) (l : Life) → o ≡ Some l → Contains (kept lives o) l
kept_here lives o l is = subst (λ (p : Option Life). Contains (kept lives p) l) (sym is) (Contains-push lives l)

pub found_more : (lives more : List Life) (mark at i : ℕ) → ((l : Life) → Contains lives l → Contains more l)
    → IsFound lives mark at i → IsFound more mark at i
found_more lives more mark at i kept f = record
    { life = f.life; there = kept f.life f.there; marked = f.marked; of = f.of; alive = f.alive }

pub found_here : (lives : List Life) (o : Option Life) (mark at i : ℕ) → (l : Life) × (o ≡ Some l) × (l.mark ≡ mark) × (l.touch ≡ i) × (is_alive at l ≡ true)
    → IsFound (kept lives o) mark at i
found_here lives o mark at i w =
    record { life = w.0; there = kept_here lives o w.0 w.1; marked = w.2; of = w.3; alive = w.4 }

module _ (ds : List Declaration) (way : Way) (touches : List Touch) (crowds : List ℕ) where
  -- with the life of one more touch
  pub holds_next : (lives : List Life) (n : ℕ) (life : Option Life) (x : Touch) (end : ℕ) → HoldsFirst n ds way touches crowds lives
      → slice_get touches n ≡ Some x → IsCrowdedLifeOf ds way crowds n x end life → IsEnd touches n x end → HoldsFirst (n + 1) ds way touches crowds (kept lives life)
  holds_next lives n life x end first here of ended i at mark y g less last user crowd small key =
      elim (eq-or-lt_of_le (let near : i ≤ n = omega (arith, less) in near)) [
        | inr before ↦ found_more lives (kept lives life) mark at i (kept_further lives life)
            (first i at mark y g before last user crowd small key)
        | inl e ↦
            let w = last_here touches at i n y last x e here in
            subst (IsFound (kept lives life) mark at) (sym e)
            (found_here lives life mark at n
            (of at mark g w.1.adds (subst (λ (z : Touch). z.tuple.user ≡ Set g) w.0 user)
            (subst (λ (z : Touch). is_crowded crowds (set_mark z.tuple.set) ≡ true) w.0 crowd) small w.1.until
            (last_within touches at n end x ended w.1 small)
            (subst (λ (z : Touch). IsMark ds way z.tuple.set g at mark) w.0 key)))
      ]

  -- a touch that is not there has none
  pub holds_past : (lives : List Life) (n : ℕ) → HoldsFirst n ds way touches crowds lives → slice_get touches n ≡ None → HoldsFirst (n + 1) ds way touches crowds lives
  holds_past lives n first none i at mark y g less last = first i at mark y g
      (last_before touches at i n y last less none) last

  pub holds_all : (lives : List Life) (n : ℕ) → HoldsFirst n ds way touches crowds lives → length touches ≤ n → Holds ds way touches crowds lives
  holds_all lives n first all i at mark x g last =
      let within = slice_get_within touches i x last.here in
      first i at mark x g (omega (arith, within, all)) last

  pub holds_permuted : (lives more : List Life) → IsPermutation lives more → Holds ds way touches crowds lives → Holds ds way touches crowds more
  holds_permuted lives more moved holds i at mark x g last user crowd small key =
      found_more lives more mark at i (λ l. Contains-permutation lives more l moved)
      (holds i at mark x g last user crowd small key)

-- ---- no crowds

none_passes : (p : ℕ → Bool) (xs : List ℕ) (n : ℕ) → list_any p xs ≡ false → passes p (slice_get xs n) ≡ false
none_passes p [] n e = refl
none_passes p (x ∷ xs) zero e = (or_false (p x) (list_any p xs) e).0
none_passes p (x ∷ xs) (suc n) e = none_passes p xs n (or_false (p x) (list_any p xs) e).1

-- where no count is high, nothing is looked for
pub holds_none : (ds : List Declaration) (way : Way) (touches : List Touch) (crowds : List ℕ) → list_any (nat_lt few) crowds ≡ false → Holds ds way touches crowds []
holds_none ds way touches crowds e i at mark x g last is crowded =
    absurd (true≢false (sym crowded ∙ none_passes (nat_lt few) crowds (count_of (set_mark x.tuple.set)) e))

-- where no count is high, nothing is looked for through a userset
pub through_none : (ds : List Declaration) (touches : List Touch) (crowds : List ℕ) → list_any (nat_lt few) crowds ≡ false → HoldsThrough ds touches crowds []
through_none ds touches crowds e i at n x g last is crowded =
    absurd (true≢false (sym crowded ∙ none_passes (nat_lt few) crowds (count_of (set_mark x.tuple.set)) e))
