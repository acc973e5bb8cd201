-- The usersets that are stored in another and may lead to its members, as they are gathered.
use Rattle.std.proofs.Common.{◌≡◌, ℕ, zero, suc, ◌<◌, ◌^◌, ◌&&◌, Bool, true, false, cond, List, [], ◌∷◌, ◌++◌, length, ◌⊎◌, refl, sym, ◌∙◌, ap, subst, Option, None, Some, inl, inr, arith}
use Rattle.std.specs.Prelude.{◌+◌, nat_eq, option_map, position, slice_get, Contains}
use Rattle.std.specs.List.{AllByRecursion, IsDistinct, cons_option, list_any}
use Rattle.std.specs.Str.{bytes_eq}
use Rattle.std.proofs.lemmas.Bool.{eq-eqb, cases_lt, cases_eq}
use Rattle.std.proofs.lemmas.Cmp.{nat_list_eq_equiv}
use Rattle.std.proofs.lemmas.List.Elements.{All-contains, All-from_recursion, Contains-append_cases, Contains-append_left, Contains-append_right, Contains-get_or}
use Rattle.std.proofs.lemmas.Map.Keys.{any_passes_from_place}
use Rattle.std.proofs.lemmas.Option.{slice_get_within}
use Rattle.std.proofs.lemmas.Map.Views.{Contains-from_any, list_any-from_Contains}
use Rattle.tuple_text.specs.OrderLaws.{set_equiv}
use Rattle.tuple_text.specs.Sets.{SetValue, set_eq}
use Rattle.tuple_text.specs.Tuples.{TupleValue, tuple_of}
use Rattle.tuple_text.specs.declared.users.User.{User}
use Rattle.tuple_text.specs.declared.users.User.TheVariants.{Id, Set}
use Rattle.tuple_text.proofs.ValueLemmas.{set_eq-same, set_eq-itself}
use Rattle.namespaces.specs.Lookup.{namespace_names, namespace_numbered, place_of}
use Rattle.namespaces.specs.Adding.{has_repeats}
use Rattle.namespaces.specs.WellFormed.{IsWellFormed}
use Rattle.rewrites.proofs.Names.{one_name, or_false}
use Rattle.strata.proofs.LastTuple.{placed}
use Rattle.strata.proofs.Newest.{position_item}
use Rattle.strata.proofs.Lists.{Contains-cons_cases, Contains-here, Contains-there, not_in_nil}
use Rattle.strata.specs.Meaning.{IsStored}
use Rattle.version_chains.specs.Commits.{Touch, changelog, is_stored}
use Rattle.version_chains.proofs.StoreLemmas.{store_at-iff}
use Rattle.marks.specs.Marks.{pair_mark, set_mark}
use Rattle.marks.proofs.PlacedLemmas.{and-left, and-right}
use Rattle.userset_index.specs.Index.{IndexValue, IsFound, IsLastTouch, IsWhole, is_crowded}
use Rattle.userset_index.specs.Lives.{touches_alive}
use Rattle.userset_index.specs.declared.life.Life.{Life}
use Rattle.userset_index.proofs.CallerLemmas.{each_found, touch_stored}
use Rattle.userset_index.proofs.ExactLemmas.{alive_last, alive_once}
use Rattle.snapshots.specs.Leading.{AreAll, AreGathered, AreLeading, AreLeadingThrough, IsNumbered, IsOfObject, if_set, is_of, set_by, sets_by, sets_named, sets_of}
use Rattle.snapshots.specs.Snapshots.{tuples_in}
use Rattle.snapshots.specs.declared.snapshot.Snapshot.{Snapshot}
use Rattle.snapshots.proofs.FoundLemmas.{crowded_there, item_next, of_stored, through_there}

-- ---- one more, or none

cons_cases : {X : Type 0} (o : Option X) (xs : List X) (y : X) → Contains (cons_option o xs) y → (o ≡ Some y) ⊎ Contains xs y
cons_cases None xs y there = inr there
cons_cases (Some x) xs y there = elim (Contains-cons_cases x xs y there) [ inl same ↦ inl (ap (λ z. Some z) same) | inr old ↦ inr old ]

cons_here : {X : Type 0} (o : Option X) (xs : List X) (y : X) → o ≡ Some y → Contains (cons_option o xs) y
cons_here o xs y is = subst (λ p. Contains (cons_option p xs) y) (sym is) (Contains-here y xs)

cons_there : {X : Type 0} (o : Option X) (xs : List X) (y : X) → Contains xs y → Contains (cons_option o xs) y
cons_there None xs y there = there
cons_there (Some x) xs y there = Contains-there x xs y there

all_from : {X : Type 0} (P : X → Type 0) (xs : List X) → ((x : X) → Contains xs x → P x) → AllByRecursion P xs
all_from P [] each = tt
all_from P (x ∷ xs) each = (each x (Contains-here x xs), all_from P xs (λ y there. each y (Contains-there x xs y there)))

distinct_append : (gs hs : List SetValue) → IsDistinct set_eq gs → IsDistinct set_eq hs → ((g : SetValue) → Contains gs g → ¬ Contains hs g) → IsDistinct set_eq (gs ++ hs)
unfolding IsDistinct
distinct_append [] hs first second apart = second
distinct_append (g ∷ gs) hs first second apart = (
  all_from (λ h. set_eq g h ≡ false) (gs ++ hs) (λ h there. elim (Contains-append_cases gs hs h there) [
    | inl old ↦ All-contains (λ h. set_eq g h ≡ false) gs h (All-from_recursion (λ h. set_eq g h ≡ false) gs first.0) old
    | inr new ↦ differs h (λ same. apart g (Contains-here g gs) (subst (Contains hs) (sym same) new))
  ]),
  distinct_append gs hs first.1 second (λ f there. apart f (Contains-there g gs f there)),
)
  where
    differs : (h : SetValue) → ¬ (g ≡ h) → set_eq g h ≡ false
    differs h other = by_test (set_eq g h) refl
      where
        by_test : (b : Bool) → set_eq g h ≡ b → b ≡ false
        by_test false e = refl
        by_test true e = absurd (other (set_eq-same g h e))

-- ---- names

same_bytes_eq : (xs ys : List ℕ) → xs ≡ ys → bytes_eq xs ys ≡ true
same_bytes_eq xs ys same = subst (λ (zs : List ℕ). bytes_eq xs zs ≡ true) same (nat_list_eq_equiv.refl xs)

-- names of which none stands twice
one_place : (xs : List (List ℕ)) (i j : ℕ) (x : List ℕ) → has_repeats xs ≡ false → slice_get xs i ≡ Some x → slice_get xs j ≡ Some x → i ≡ j
one_place [] i j x once here there = absurd cc
one_place (y ∷ ys) zero zero x once here there = refl
one_place (y ∷ ys) zero (suc j) x once here there =
    let same : y ≡ x = (let both : Some y ≡ Some x = here in cc) in
    let again = any_passes_from_place (bytes_eq y) ys j x there (same_bytes_eq y x same) in
    absurd (let bad : true ≡ false = sym again ∙ (or_false (list_any (bytes_eq y) ys) (has_repeats ys) once).0 in cc)
one_place (y ∷ ys) (suc i) zero x once here there =
    let same : y ≡ x = (let both : Some y ≡ Some x = there in cc) in
    let again = any_passes_from_place (bytes_eq y) ys i x here (same_bytes_eq y x same) in
    absurd (let bad : true ≡ false = sym again ∙ (or_false (list_any (bytes_eq y) ys) (has_repeats ys) once).0 in cc)
one_place (y ∷ ys) (suc i) (suc j) x once here there = ap suc (one_place ys i j x (or_false (list_any (bytes_eq y) ys) (has_repeats ys) once).1 here there)

-- ---- the usersets that touches are of

set_is : (of : Bool) (namespace : Option (List ℕ)) (user : User) (g : SetValue) → if_set of namespace user ≡ Some g → (of ≡ true) × (user ≡ Set g) × (is_of namespace g ≡ true)
set_is of namespace (Id n) g is = absurd cc
set_is of namespace (Set h) g is = by_test (of && is_of namespace h) refl is
  where
    by_test : (b : Bool) → (of && is_of namespace h) ≡ b → cond b (Some h) None ≡ Some g → (of ≡ true) × (Set h ≡ Set g) × (is_of namespace g ≡ true)
    by_test false e is = absurd cc
    by_test true e is =
        let same : h ≡ g = cc in (
          and-left of (is_of namespace h) e,
          ap (λ (f : SetValue). Set f) same,
          subst (λ (f : SetValue). is_of namespace f ≡ true) same (and-right of (is_of namespace h) e),
        )

module _ (set : SetValue) (namespace : Option (List ℕ)) where
  by_touch : (o : Option Touch) (g : SetValue) → set_by set namespace o ≡ Some g → (x : Touch) × (o ≡ Some x) × (x.tuple ≡ tuple_of set (Set g)) × (is_of namespace g ≡ true)
  by_touch None g is = absurd cc
  by_touch (Some x) g is =
      let w = set_is (set_eq set x.tuple.set) namespace x.tuple.user g is in
      let one = set_eq-same set x.tuple.set w.0 in
      (x, refl, λ k. record { set = sym one k; user = w.1 k }, w.2)

  of_touch : (x : Touch) (g : SetValue) → x.tuple ≡ tuple_of set (Set g) → is_of namespace g ≡ true → set_by set namespace (Some x) ≡ Some g
  of_touch x g same wanted =
      ap (λ (t : TupleValue). if_set (set_eq set t.set) namespace t.user) same
      ∙ rw (set_eq-itself set, wanted) refl

  module _ (s : Snapshot) where
    abbrev touches : List Touch
    touches = changelog s.timeline.commits

    in_sets : (is : List ℕ) (g : SetValue) → Contains (sets_by s set namespace is) g
        → (i : ℕ) × (x : Touch) × Contains is i × (slice_get touches i ≡ Some x) × (x.tuple ≡ tuple_of set (Set g)) × (is_of namespace g ≡ true)
    in_sets [] g there = absurd (not_in_nil g there)
    in_sets (i ∷ is) g there = by_cases (in_sets is g) (cons_cases (set_by set namespace (slice_get touches i)) (sets_by s set namespace is) g there)
      where
        by_cases : (Contains (sets_by s set namespace is) g
            → (i : ℕ) × (x : Touch) × Contains is i × (slice_get touches i ≡ Some x) × (x.tuple ≡ tuple_of set (Set g)) × (is_of namespace g ≡ true))
            → (set_by set namespace (slice_get touches i) ≡ Some g) ⊎ Contains (sets_by s set namespace is) g
            → (j : ℕ) × (x : Touch) × Contains (i ∷ is) j × (slice_get touches j ≡ Some x) × (x.tuple ≡ tuple_of set (Set g)) × (is_of namespace g ≡ true)
        by_cases further (inl one) = let w = by_touch (slice_get touches i) g one in (i, w.0, Contains-here i is, w.1, w.2, w.3)
        by_cases further (inr old) = let w = further old in (w.0, w.1, Contains-there i is w.0 w.2, w.3, w.4, w.5)

    among_sets : (is : List ℕ) (i : ℕ) (x : Touch) (g : SetValue) → Contains is i → slice_get touches i ≡ Some x → x.tuple ≡ tuple_of set (Set g) → is_of namespace g ≡ true
        → Contains (sets_by s set namespace is) g
    among_sets [] i x g there here same wanted = absurd (not_in_nil i there)
    among_sets (j ∷ is) i x g there here same wanted = by_cases (among_sets is i x g) (Contains-cons_cases j is i there)
      where
        by_cases : (Contains is i → slice_get touches i ≡ Some x → x.tuple ≡ tuple_of set (Set g) → is_of namespace g ≡ true → Contains (sets_by s set namespace is) g)
            → (j ≡ i) ⊎ Contains is i → Contains (sets_by s set namespace (j ∷ is)) g
        by_cases further (inl one) =
            cons_here (set_by set namespace (slice_get touches j)) (sets_by s set namespace is) g
            (ap (λ (k : ℕ). set_by set namespace (slice_get touches k)) one ∙ ap (set_by set namespace) here ∙ of_touch x g same wanted)
        by_cases further (inr old) = cons_there (set_by set namespace (slice_get touches j)) (sets_by s set namespace is) g (further old here same wanted)

    abbrev AreLast : List ℕ → Type 0
    AreLast is = (i : ℕ) → Contains is i → (x : Touch) × IsLastTouch touches s.at i x

    -- the last touches of one tuple are one
    one_last : (i j : ℕ) (x y : Touch) → IsLastTouch touches s.at i x → IsLastTouch touches s.at j y → x.tuple ≡ y.tuple → i ≡ j
    one_last i j x y first second same = elim (cases_eq i j) [
      | inl e ↦ e
      | inr other ↦ elim (cases_lt i j) [
        | inl less ↦ let late = first.last j y less second.here (sym same) in let early = second.until in absurd (omega (arith, late, early))
        | inr more ↦ let late = second.last i x (omega (arith, more, other)) first.here same in let early = first.until in absurd (omega (arith, late, early))
      ]
    ]

    distinct_sets : (is : List ℕ) → IsDistinct nat_eq is → AreLast is → IsDistinct set_eq (sets_by s set namespace is)
    unfolding IsDistinct
    distinct_sets [] once last = tt
    distinct_sets (i ∷ is) once last = by_first (set_by set namespace (slice_get touches i)) refl (distinct_sets is once.1 (λ j there. last j (Contains-there i is j there)))
      where
        apart : (g h : SetValue) → set_by set namespace (slice_get touches i) ≡ Some g → Contains (sets_by s set namespace is) h → (b : Bool) → set_eq g h ≡ b → b ≡ false
        apart g h is_first there false e = refl
        apart g h is_first there true e =
            let w = by_touch (slice_get touches i) g is_first in
            let v = in_sets is h there in
            let x = last i (Contains-here i is) in
            let y = last v.0 (Contains-there i is v.0 v.2) in
            let first : x.0 ≡ w.0 = (let both : Some x.0 ≡ Some w.0 = sym x.1.here ∙ w.1 in cc) in
            let second : y.0 ≡ v.1 = (let both : Some y.0 ≡ Some v.1 = sym y.1.here ∙ v.3 in cc) in
            let same : x.0.tuple ≡ y.0.tuple =
            ap (λ (z : Touch). z.tuple) first ∙ w.2 ∙ ap (λ (f : SetValue). tuple_of set (Set f)) (set_eq-same g h e) ∙ sym v.4 ∙ ap (λ (z : Touch). z.tuple) (sym second) in
            let one = one_last i v.0 x.0 y.0 x.1 y.1 same in
            let differ : nat_eq i v.0 ≡ false = All-contains (λ j. nat_eq i j ≡ false) is v.0 (All-from_recursion (λ j. nat_eq i j ≡ false) is once.0) v.2 in
            absurd (let bad : true ≡ false = sym (eq-eqb i v.0 one) ∙ differ in cc)

        by_first : (o : Option SetValue) → set_by set namespace (slice_get touches i) ≡ o → IsDistinct set_eq (sets_by s set namespace is)
            → IsDistinct set_eq (cons_option o (sets_by s set namespace is))
        by_first None e rest = rest
        by_first (Some g) e rest = (all_from (λ h. set_eq g h ≡ false) (sets_by s set namespace is) (λ h there. apart g h e there (set_eq g h) refl), rest)

    stored_sets : (is : List ℕ) → AreLast is → (g : SetValue) → Contains (sets_by s set namespace is) g → IsStored (tuples_in s) set (Set g)
    stored_sets is last g there =
        let w = in_sets is g there in
        let x = last w.0 w.2 in
        let one : x.0 ≡ w.1 = (let both : Some x.0 ≡ Some w.1 = sym x.1.here ∙ w.3 in cc) in
        (store_at-iff s.timeline.commits s.at (tuple_of set (Set g))).1
        (ap (is_stored s.timeline.commits s.at) (sym (ap (λ (z : Touch). z.tuple) one ∙ w.4)) ∙ touch_stored s.timeline.commits s.at w.0 x.0 x.1)

-- the number of a namespace is that of its place, counted from 1
place_within : (p : List ℕ) (names : List (List ℕ)) (n : ℕ) → place_of p names ≡ Some n → (k : ℕ) × (n ≡ suc k) × (k < length names)
place_within p names n place = by_position (position (bytes_eq p) names) refl place
  where
    by_position : (o : Option ℕ) → position (bytes_eq p) names ≡ o → option_map (λ i. i + 1) o ≡ Some n → (k : ℕ) × (n ≡ suc k) × (k < length names)
    by_position None e is = absurd cc
    by_position (Some i) e is =
        let w = position_item (bytes_eq p) names i e in
        let one : i + 1 ≡ n = cc in
        (i, omega (arith, one), slice_get_within names i w.0 w.1)

-- ---- a set that is not crowded

pub all_stored : (s : Snapshot) (set : SetValue) (gs : List SetValue) → IsDistinct set_eq gs
    → ((g : SetValue) → list_any (set_eq g) gs ≡ is_stored s.timeline.commits s.at (tuple_of set (Set g))) → AreAll s set gs
all_stored s set gs distinct has = record {
  stored = record {
    distinct = distinct;
    each = λ g there. (store_at-iff s.timeline.commits s.at (tuple_of set (Set g))).1 (sym (has g) ∙ list_any-from_Contains set_equiv g gs there);
  };
  all = λ g stored. Contains-from_any set_eq-same g gs (has g ∙ (store_at-iff s.timeline.commits s.at (tuple_of set (Set g))).0 stored);
}

pub all_leading : (s : Snapshot) (set : SetValue) (gs : List SetValue) → AreAll s set gs → AreLeading s set gs
all_leading s set gs are = record { stored = are.stored; own = λ g stored declared. are.all g stored }

pub all_leading_through : (s : Snapshot) (set : SetValue) (P : ℕ → Type 0) (gs : List SetValue) → AreAll s set gs → AreLeadingThrough s set P gs
all_leading_through s set P gs are = record {
  stored = are.stored;
  through = λ n g stored numbered wanted. (g, are.all g stored, record { namespace = refl; id = refl });
}

-- ---- as one namespace comes behind the other

module _ (s : Snapshot) (set : SetValue) (P : ℕ → Type 0) where
  pub none_gathered : AreGathered s set P 0 []
  unfolding IsDistinct
  none_gathered = record {
    through = record {
      stored = record { distinct = tt; each = λ g there. absurd (not_in_nil g there) };
      through = λ n g stored numbered wanted. let w = place_within g.namespace (namespace_names s.timeline.declarations) n numbered in absurd (let none = wanted.1 in let next = w.1 in omega (arith, none, next));
    };
    below = λ g there. absurd (not_in_nil g there);
  }

  -- a namespace that is not wanted is passed over
  pub passed : (n : ℕ) (gs : List SetValue) → (¬ P (suc n)) → AreGathered s set P n gs → AreGathered s set P (suc n) gs
  passed n gs unwanted rest = record {
    through = record {
      stored = rest.through.stored;
      through = λ k g stored numbered wanted. elim (cases_eq k (suc n)) [
        | inl here ↦ absurd (unwanted (subst P here wanted.0))
        | inr other ↦ rest.through.through k g stored numbered (wanted.0, (let most = wanted.1 in omega (arith, most, other)))
      ];
    };
    below = λ g there. let w = rest.below g there in (w.0, (let less = w.1 in omega (arith, less)), w.2);
  }

  -- there are no more than 256
  pub all_gathered : IsWellFormed s.timeline.declarations → (gs : List SetValue) → AreGathered s set P 256 gs → AreLeadingThrough s set P gs
  all_gathered well gs all = record {
    stored = all.through.stored;
    through = λ n g stored numbered wanted.
        all.through.through n g stored numbered (wanted, (let w = place_within g.namespace (namespace_names s.timeline.declarations) n numbered in let next = w.1 in let less = w.2 in let few = well.namespaces in omega (arith, few, next, less)));
  }

-- ---- a crowded one

found_in : (lives : List Life) (mark at i : ℕ) → IsFound lives mark at i → Contains (touches_alive mark at lives (length lives)) i
found_in lives mark at i found =
    each_found (λ j. Contains (touches_alive mark at lives (length lives)) j) lives mark at i found
    (λ k d less. Contains-get_or (touches_alive mark at lives (length lives)) k d less)

module _ (s : Snapshot) (small : s.at < 2 ^ 64) (v : IndexValue) (is : IsWhole s.timeline.declarations s.timeline.commits v) (set : SetValue) (crowded : is_crowded v.crowds (set_mark set) ≡ true) where
  abbrev own_touches : List ℕ
  own_touches = touches_alive (set_mark set) s.at v.own (length v.own)

  pub own_leading : AreLeading s set (sets_by s set None own_touches)
  own_leading = record {
    stored = record {
      distinct = distinct_sets set None s own_touches (alive_once (changelog s.timeline.commits) v.own is.own_exact (set_mark set) s.at) last;
      each = stored_sets set None s own_touches last;
    };
    own = λ g stored declared.
        let w = of_stored s small v is set crowded g stored in
        let found =
        is.own w.0 s.at (set_mark set) w.1 g w.2 (ap (λ (t : TupleValue). t.user) w.3) (crowded_there s small v is set crowded w.1 g w.3) small
        (ap (λ (t : TupleValue). set_mark t.set) (sym w.3), declared) in
        among_sets set None s own_touches w.0 w.1 g (found_in v.own (set_mark set) s.at w.0 found) w.2.here w.3 refl;
  }
    where
      last : AreLast set None s own_touches
      last = alive_last (changelog s.timeline.commits) v.own is.own_exact (set_mark set) s.at

  abbrev through_touches : ℕ → List ℕ
  through_touches n = touches_alive (pair_mark (set_mark set) n) s.at v.through (length v.through)

  -- where nothing is found of a namespace, nothing of it is stored
  pub none_found : (n : ℕ) → through_touches n ≡ [] → (g : SetValue) → IsStored (tuples_in s) set (Set g) → ¬ IsNumbered s g n
  none_found n none g stored numbered =
      let f = through_there s small v is set crowded g n numbered stored in
      not_in_nil f.touch (subst (λ (is : List ℕ). Contains is f.touch) none (found_in v.through (pair_mark (set_mark set) n) s.at f.touch f.found))

  last_through : (n : ℕ) (name : List ℕ) → AreLast set (Some name) s (through_touches n)
  last_through n name = alive_last (changelog s.timeline.commits) v.through is.through_exact (pair_mark (set_mark set) n) s.at

  in_named : (n : ℕ) (o : Option (List ℕ)) (g : SetValue) → Contains (sets_named s v set n o) g
      → (name : List ℕ) × (o ≡ Some name) × Contains (sets_by s set (Some name) (through_touches n)) g
  in_named n None g there = absurd (not_in_nil g there)
  in_named n (Some name) g there = (name, refl, there)

  named_distinct : (n : ℕ) (o : Option (List ℕ)) → IsDistinct set_eq (sets_named s v set n o)
  unfolding IsDistinct
  named_distinct n None = tt
  named_distinct n (Some name) =
      distinct_sets set (Some name) s (through_touches n) (alive_once (changelog s.timeline.commits) v.through is.through_exact (pair_mark (set_mark set) n) s.at) (last_through n name)

  -- each of them is stored, and of the namespace
  of_named : (n : ℕ) (g : SetValue) → Contains (sets_of s v set (suc n)) g
      → IsStored (tuples_in s) set (Set g) × (slice_get (namespace_names s.timeline.declarations) n ≡ Some g.namespace)
  of_named n g there =
      let w = in_named (suc n) (namespace_numbered (suc n) s.timeline.declarations) g there in
      let u = in_sets set (Some w.0) s (through_touches (suc n)) g w.2 in (
        stored_sets set (Some w.0) s (through_touches (suc n)) (last_through (suc n) w.0) g w.2,
        sym (item_next (namespace_names s.timeline.declarations) n) ∙ w.1 ∙ ap (λ (q : List ℕ). Some q) (one_name w.0 g.namespace u.5),
      )

  -- and one of the object of each that is stored and of the namespace is among them
  object_of : (n : ℕ) (g : SetValue) → IsStored (tuples_in s) set (Set g) → IsNumbered s g (suc n) → (h : SetValue) × Contains (sets_of s v set (suc n)) h × IsOfObject g h
  object_of n g stored place =
      let name : namespace_numbered (suc n) s.timeline.declarations ≡ Some g.namespace = placed g.namespace (namespace_names s.timeline.declarations) (suc n) place in
      let f = through_there s small v is set crowded g (suc n) place stored in
      let one : bytes_eq g.namespace f.of.namespace ≡ true = same_bytes_eq g.namespace f.of.namespace (sym f.one_namespace) in
      let there : Contains (sets_by s set (Some g.namespace) (through_touches (suc n))) f.of =
      among_sets set (Some g.namespace) s (through_touches (suc n)) f.touch f.is f.of (found_in v.through (pair_mark (set_mark set) (suc n)) s.at f.touch f.found) f.last.here f.stored one in
      (f.of, subst (λ (o : Option (List ℕ)). Contains (sets_named s v set (suc n) o) f.of) (sym name) there, record { namespace = f.one_namespace; id = f.one_id })

  -- what an index finds of one more namespace
  pub more_gathered : (P : ℕ → Type 0) → has_repeats (namespace_names s.timeline.declarations) ≡ false → (n : ℕ) (gs : List SetValue) → AreGathered s set P n gs
      → AreGathered s set P (suc n) (gs ++ sets_of s v set (suc n))
  more_gathered P once n gs rest = record {
    through = record {
      stored = record {
        distinct = distinct_append gs (sets_of s v set (suc n)) rest.through.stored.distinct (named_distinct (suc n) (namespace_numbered (suc n) s.timeline.declarations))
            (λ g there again.
            let w = rest.below g there in
            let same = one_place (namespace_names s.timeline.declarations) w.0 n g.namespace once w.2 (of_named n g again).1 in
            let less = w.1 in
            omega (arith, less, same));
        each = λ g there. elim (Contains-append_cases gs (sets_of s v set (suc n)) g there) [
          | inl before ↦ rest.through.stored.each g before
          | inr here ↦ (of_named n g here).0
        ];
      };
      through = λ k g stored numbered wanted. elim (cases_eq k (suc n)) [
        | inl here ↦
            let w = object_of n g stored (subst (IsNumbered s g) here numbered) in
            (w.0, Contains-append_right gs (sets_of s v set (suc n)) w.0 w.1, w.2)
        | inr other ↦
            let w = rest.through.through k g stored numbered (wanted.0, (let most = wanted.1 in omega (arith, most, other))) in
            (w.0, Contains-append_left gs (sets_of s v set (suc n)) w.0 w.1, w.2)
      ];
    };
    below = λ g there. elim (Contains-append_cases gs (sets_of s v set (suc n)) g there) [
      | inl before ↦ let w = rest.below g before in (w.0, (let less = w.1 in omega (arith, less)), w.2)
      | inr here ↦ (n, omega arith, (of_named n g here).1)
    ];
  }
