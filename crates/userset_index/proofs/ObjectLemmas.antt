-- One life of an object at a time is enough.
use Rattle.std.proofs.Common.{◌≡◌, ℕ, ◌+◌, ◌<◌, ◌≤◌, Bool, true, List, [], ◌∷◌, ◌++◌, ◌&&◌, refl, sym, ◌∙◌, ap, subst, Option, None, Some, inl, inr, arith}
use Rattle.std.specs.Prelude.{slice_get, option_map, nat_le, Contains, IsPermutation}
use Rattle.std.proofs.lemmas.Bool.{cases_lt, le-leb, leb-true}
use Rattle.std.proofs.lemmas.List.Elements.{Contains-append_left, Contains-push, Contains-push_cases}
use Rattle.std.proofs.lemmas.List.Sorted.{Contains-permutation}
use Rattle.tuple_text.specs.Sets.{SetValue}
use Rattle.tuple_text.specs.Tuples.{TupleValue, tuple_of}
use Rattle.tuple_text.specs.declared.users.User.{User}
use Rattle.tuple_text.specs.declared.users.User.TheVariants.{Id, Set}
use Rattle.namespaces.specs.Declaration.{Declaration}
use Rattle.namespaces.specs.Lookup.{namespace_names, place_of}
use Rattle.version_chains.specs.Commits.{Touch}
use Rattle.marks.specs.Marks.{pair_mark, set_mark}
use Rattle.marks.proofs.PlacedLemmas.{and-left, and-right}
use Rattle.userset_index.specs.Building.{IsWithin, kept}
use Rattle.userset_index.specs.Index.{AreTimely, Holds, HoldsThrough, IsFound, IsFoundThrough, IsLastTouch, IsTimely, object_mark}
use Rattle.userset_index.specs.Lives.{is_alive}
use Rattle.userset_index.specs.Objects.{AreNumbered, IsCoveredBy, object_at, object_of}
use Rattle.userset_index.specs.declared.life.Life.{Life}
use Rattle.userset_index.specs.declared.life.Way.TheVariants.{Object}
use Rattle.userset_index.proofs.BuildLemmas.{found_more}

-- ---- the timestamps of a life

and_true : (a b : Bool) → a ≡ true → b ≡ true → (a && b) ≡ true
and_true a b p q = cc

pub alive_from : (l : Life) (t : ℕ) → is_alive t l ≡ true → l.from ≤ t
alive_from l t is = leb-true l.from t (and-left (nat_le l.from t) (nat_le t l.until) is)

pub alive_until : (l : Life) (t : ℕ) → is_alive t l ≡ true → t ≤ l.until
alive_until l t is = leb-true t l.until (and-right (nat_le l.from t) (nat_le t l.until) is)

pub is_alive_by : (l : Life) (t : ℕ) → l.from ≤ t → t ≤ l.until → is_alive t l ≡ true
is_alive_by l t since until = and_true (nat_le l.from t) (nat_le t l.until) (le-leb l.from t since) (le-leb t l.until until)

-- ---- lives at whose timestamps a touch is the last of its tuple

pub timely_within : (touches : List Touch) (n end : ℕ) (x : Touch) (l : Life) → slice_get touches n ≡ Some x → IsWithin n x end l
    → ((j : ℕ) (y : Touch) → n < j → slice_get touches j ≡ Some y → y.tuple ≡ x.tuple → end < y.at) → IsTimely touches l
timely_within touches n end x l here is later at alive = (
  x,
  record {
    here = ap (slice_get touches) is.of ∙ here;
    until = let since = alive_from l at alive in let first = is.since in omega (arith, since, first);
    adds = is.adds;
    last = λ j y less there same.
        let after = later j y (subst (λ (k : ℕ). k < j) is.of less) there same in
        let upto = alive_until l at alive in
        let end_is = is.until in
        omega (arith, after, upto, end_is);
  },
)

pub timely_shorter : (touches : List Touch) (l m : Life) → m.touch ≡ l.touch → l.from ≤ m.from → m.until ≤ l.until → IsTimely touches l → IsTimely touches m
timely_shorter touches l m same since until timely at alive =
    let first = alive_from m at alive in
    let last = alive_until m at alive in
    let w = timely at (is_alive_by l at (omega (arith, first, since)) (omega (arith, last, until))) in
    (w.0, subst (λ (i : ℕ). IsLastTouch touches at i w.0) (sym same) w.1)

pub timely_more : (touches : List Touch) (lives : List Life) (l : Life) → AreTimely touches lives → IsTimely touches l → AreTimely touches (lives ++ l ∷ [])
timely_more touches lives l all one m there = elim (Contains-push_cases lives l m there) [
  | inl old ↦ all m old
  | inr is ↦ subst (IsTimely touches) is one
]

pub timely_kept : (touches : List Touch) (lives : List Life) (o : Option Life) → AreTimely touches lives → ((l : Life) → o ≡ Some l → IsTimely touches l)
    → AreTimely touches (kept lives o)
timely_kept touches lives None all one = all
timely_kept touches lives (Some l) all one = timely_more touches lives l all (one l refl)

pub timely_permuted : (touches : List Touch) (lives more : List Life) → IsPermutation more lives → AreTimely touches lives → AreTimely touches more
timely_permuted touches lives more moved all l there = all l (Contains-permutation more lives l moved there)

-- ---- what is covered

pub covered_further : (touches : List Touch) (lives : List Life) (l : Life) (i t : ℕ) → IsCoveredBy touches lives i t → IsCoveredBy touches (lives ++ l ∷ []) i t
covered_further touches lives l i t is =
    record { life = is.life; there = Contains-append_left lives (l ∷ []) is.life is.there; alive = is.alive; one_object = is.one_object }

pub covered_here : (touches : List Touch) (lives : List Life) (l : Life) (i t : ℕ) → is_alive t l ≡ true → object_at touches l.touch ≡ object_at touches i
    → IsCoveredBy touches (lives ++ l ∷ []) i t
covered_here touches lives l i t alive same = record { life = l; there = Contains-push lives l; alive = alive; one_object = same }

pub covered_same : (touches : List Touch) (lives : List Life) (i j t : ℕ) → object_at touches i ≡ object_at touches j → IsCoveredBy touches lives i t
    → IsCoveredBy touches lives j t
covered_same touches lives i j t same is = record { life = is.life; there = is.there; alive = is.alive; one_object = is.one_object ∙ same }

-- a life to which what is covered of its object reaches
module _ (touches : List Touch) (lives : List Life) (cover life : Life) (same : object_at touches cover.touch ≡ object_at touches life.touch)
    (reached : is_alive life.from cover ≡ true) (covered : (t : ℕ) → is_alive t cover ≡ true → IsCoveredBy touches lives cover.touch t) where
  pub covered_inside : (t : ℕ) → is_alive t life ≡ true → t ≤ cover.until → IsCoveredBy touches lives life.touch t
  covered_inside t alive inside =
      let first = alive_from cover life.from reached in
      let since = alive_from life t alive in
      covered_same touches lives cover.touch life.touch t same (covered t (is_alive_by cover t (omega (arith, first, since)) inside))

  pub covered_by_rest : (t : ℕ) → is_alive t life ≡ true → IsCoveredBy touches (lives ++ record life { from = cover.until + 1 } ∷ []) life.touch t
  covered_by_rest t alive = elim (cases_lt cover.until t) [
    | inl behind ↦
        covered_here touches lives (record life { from = cover.until + 1 }) life.touch t
        (is_alive_by (record life { from = cover.until + 1 }) t (omega (arith, behind)) (alive_until life t alive)) refl
    | inr inside ↦ covered_further touches lives (record life { from = cover.until + 1 }) life.touch t (covered_inside t alive inside)
  ]

  pub cover_by_rest : (t : ℕ) → is_alive t (record cover { until = life.until }) ≡ true
      → IsCoveredBy touches (lives ++ record life { from = cover.until + 1 } ∷ []) cover.touch t
  cover_by_rest t alive = elim (cases_lt cover.until t) [
    | inl behind ↦
        covered_here touches lives (record life { from = cover.until + 1 }) cover.touch t
        (is_alive_by (record life { from = cover.until + 1 }) t (omega (arith, behind)) (alive_until (record cover { until = life.until }) t alive)) (sym same)
    | inr inside ↦
        covered_further touches lives (record life { from = cover.until + 1 }) cover.touch t
        (covered t (is_alive_by cover t (alive_from (record cover { until = life.until }) t alive) inside))
  ]

-- ---- usersets of one object

of_object : (u : User) (g : SetValue) → object_of u ≡ object_of (Set g) → (h : SetValue) × (u ≡ Set h) × (h.namespace ≡ g.namespace) × (h.id ≡ g.id)
of_object (Id n) g same = absurd (let bad : None ≡ Some (record g { relation = [] }) = same in cc)
of_object (Set h) g same =
    let both : Some (record h { relation = [] }) ≡ Some (record g { relation = [] }) = same in
    let is : record h { relation = [] } ≡ record g { relation = [] } = cc in
    (h, refl, ap (λ (s : SetValue). s.namespace) is, ap (λ (s : SetValue). s.id) is)

one_object : (touches : List Touch) (i j : ℕ) (x y : Touch) (g : SetValue) → slice_get touches i ≡ Some x → slice_get touches j ≡ Some y
    → object_at touches j ≡ object_at touches i → x.tuple.user ≡ Set g
    → (h : SetValue) × (y.tuple ≡ tuple_of x.tuple.set (Set h)) × (h.namespace ≡ g.namespace) × (h.id ≡ g.id)
one_object touches i j x y g here there same user =
    let both : Some (y.tuple.set, object_of y.tuple.user) ≡ Some (x.tuple.set, object_of x.tuple.user) =
    sym (ap (option_map (λ (z : Touch). (z.tuple.set, object_of z.tuple.user))) there) ∙ same ∙ ap (option_map (λ (z : Touch). (z.tuple.set, object_of z.tuple.user))) here in
    let pair : (y.tuple.set, object_of y.tuple.user) ≡ (x.tuple.set, object_of x.tuple.user) = cc in
    let set : y.tuple.set ≡ x.tuple.set = ap (λ (p : SetValue × Option SetValue). p.0) pair in
    let w = of_object y.tuple.user g (ap (λ (p : SetValue × Option SetValue). p.1) pair ∙ ap object_of user) in
    (w.0, λ k. record { set = set k; user = w.1 k }, w.2, w.3)

-- ---- what is found

-- a userset of the object that is stored at the timestamp
found_by : (touches : List Touch) (lives : List Life) (mark at i : ℕ) (s g h : SetValue) (y : Touch)
    → IsLastTouch touches at i y → y.tuple ≡ tuple_of s (Set h)
    → h.namespace ≡ g.namespace → h.id ≡ g.id → IsFound lives mark at i → IsFoundThrough touches lives mark at s g
found_by touches lives mark at i s g h y last stored one_namespace one_id found = record {
  touch = i;
  is = y;
  of = h;
  last = last;
  stored = stored;
  one_namespace = one_namespace;
  one_id = one_id;
  found = found;
}

module _ (ds : List Declaration) (touches : List Touch) (crowds : List ℕ) where
  -- where lives that are found by their object are covered by others, and these are numbered, one of each object is found
  pub through_by_objects : (lives merged numbered : List Life) → Holds ds Object touches crowds lives
      → ((l : Life) (t : ℕ) → Contains lives l → is_alive t l ≡ true → IsCoveredBy touches merged l.touch t)
      → AreTimely touches merged → AreNumbered ds touches merged numbered → HoldsThrough ds touches crowds numbered
  through_by_objects lives merged numbered holds covered timely all i at n x g last user crowd small place =
      by_life (holds i at (object_mark x.tuple.set g) x g last user crowd small refl)
    where
      by_touch : (l : Life) (y : Touch) → Contains merged l → is_alive at l ≡ true → object_at touches l.touch ≡ object_at touches i → IsLastTouch touches at l.touch y
          → IsFoundThrough touches numbered (pair_mark (set_mark x.tuple.set) n) at x.tuple.set g
      by_touch l y there alive same last_y =
          let o = one_object touches i l.touch x y g last.here last_y.here same user in
          let number : place_of o.0.namespace (namespace_names ds) ≡ Some n = ap (λ (name : List ℕ). place_of name (namespace_names ds)) o.2 ∙ place in
          found_by touches numbered (pair_mark (set_mark x.tuple.set) n) at l.touch x.tuple.set g o.0 y last_y o.1
          o.2 o.3 (record {
            life = record l { mark = pair_mark (set_mark y.tuple.set) n };
            there = all l y o.0 n there last_y.here (ap (λ (t : TupleValue). t.user) o.1) number;
            marked = ap (λ (t : TupleValue). pair_mark (set_mark t.set) n) o.1;
            of = refl;
            alive = alive;
          })

      by_life : IsFound lives (object_mark x.tuple.set g) at i → IsFoundThrough touches numbered (pair_mark (set_mark x.tuple.set) n) at x.tuple.set g
      by_life f =
          let c = covered f.life at f.there f.alive in
          let w = timely c.life c.there at c.alive in
          by_touch c.life w.0 c.there c.alive (c.one_object ∙ ap (object_at touches) f.of) w.1

  pub through_permuted : (lives more : List Life) → IsPermutation lives more → HoldsThrough ds touches crowds lives → HoldsThrough ds touches crowds more
  through_permuted lives more moved holds i at n x g last user crowd small place =
      let f = holds i at n x g last user crowd small place in
      found_by touches more _ at f.touch x.tuple.set g f.of f.is f.last f.stored f.one_namespace f.one_id
      (found_more lives more _ at f.touch (λ l. Contains-permutation lives more l moved) f.found)
