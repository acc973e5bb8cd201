-- The rules with one declaration more: where no edge was broken before, only edges of its namespace can be.
use Rattle.std.proofs.Common.{◌≡◌, ℕ, zero, suc, ◌+◌, ◌-◌, ◌≤◌, nat_lt, Bool, true, false, cond, List, [], ◌∷◌, ◌++◌, length, slice_get, position, Option, None, Some, option_map, option_and_then, unwrap_or, Result, Ok, Err, ◌⊎◌, inl, inr, refl, sym, ◌∙◌, ap, subst, arith}
use Rattle.std.specs.List.{flat_map, enumerate_from, range_with_len, list_any, position_or_len}
use Rattle.std.specs.Str.{bytes_eq}
use Rattle.std.proofs.lemmas.Bool.Decides.{nat_tests}
use Rattle.namespaces.specs.declared.number.RelNo.{RelNo}
use Rattle.namespaces.specs.Declaration.{Relation, Declaration}
use Rattle.namespaces.specs.Lookup.{history, relations_of, with_name, names_after, namespace_names, namespace_numbered, history_numbered, number_of, place_of, relation_names, item_at}
use Rattle.namespaces.specs.Adding.{has_repeats}
use Rattle.namespaces.proofs.Growth.{names_after-push}
use Rattle.rewrites.proofs.Names.{by_bool, clash, same_name, one_name, other_name, or_false}
use Rattle.namespaces.proofs.Repeats.{has_repeats-with_name}
use Rattle.namespaces.proofs.Numbering.{item_at-place}
use Rattle.strata.specs.declared.edge.Edge.{Edge}
use Rattle.strata.specs.Edges.{RelationName, Place, at_this, at_computed, at_tuple_to, relation_edges, relations_in, namespace_edges, edges_of_namespace, rule_edges, read_by_rule, stratum_numbered, first_broken}
use Rattle.strata.proofs.KeptEdges.{IsKept, flat_same, rules_same}
use Rattle.names.proofs.NamesLemmas.{position_cons, position_more}
use Rattle.strata.proofs.Walks.{both, edges_joined}

-- ---- places in lists

module _ {X : Type 0} (p : X → Bool) where
  -- what stands at a position
  pub position_item : (xs : List X) (i : ℕ) → position p xs ≡ Some i → (x : X) × (slice_get xs i ≡ Some x) × (p x ≡ true)
  position_item [] i h = cc
  position_item (x ∷ xs) i h = by_test (position_item xs)
    where
      later : ((k : ℕ) → position p xs ≡ Some k → (y : X) × (slice_get xs k ≡ Some y) × (p y ≡ true)) → (o : Option ℕ) → position p xs ≡ o → option_map suc o ≡ Some i → (y : X) × (slice_get (x ∷ xs) i ≡ Some y) × (p y ≡ true)
      later further None is e = cc
      later further (Some k) is e =
          let w = further k is in
          let z : suc k ≡ i = cc in
          (w.0, subst (λ (k : ℕ). slice_get (x ∷ xs) k ≡ Some w.0) z w.1, w.2)

      by_test : ((k : ℕ) → position p xs ≡ Some k → (y : X) × (slice_get xs k ≡ Some y) × (p y ≡ true)) → (y : X) × (slice_get (x ∷ xs) i ≡ Some y) × (p y ≡ true)
      by_test further = by_bool (p x)
          (λ t. let e : Some 0 ≡ Some i = rw (position_cons p x xs, t) at h in let z : 0 ≡ i = cc in (x, subst (λ (k : ℕ). slice_get (x ∷ xs) k ≡ Some x) z refl, t))
          (λ f. let e : option_map suc (position p xs) ≡ Some i = rw (position_cons p x xs, f) at h in later further (position p xs) refl e)

  -- where there is none, nothing passes
  pub position_none : (xs : List X) → position p xs ≡ None → (k : ℕ) (x : X) → slice_get xs k ≡ Some x → p x ≡ false
  position_none [] h k x at = cc
  position_none (y ∷ ys) h k x at = by_bool (p y)
      (λ t. let e : Some 0 ≡ None = rw (position_cons p y ys, t) at h in cc)
      (λ f. let e : option_map suc (position p ys) ≡ None = rw (position_cons p y ys, f) at h in by_place (position_none ys) k f (position p ys) refl e at)
    where
      by_place : (position p ys ≡ None → (k : ℕ) (x : X) → slice_get ys k ≡ Some x → p x ≡ false) → (k : ℕ) → p y ≡ false → (o : Option ℕ) → position p ys ≡ o → option_map suc o ≡ None → slice_get (y ∷ ys) k ≡ Some x → p x ≡ false
      by_place further k f (Some i) is e at = cc
      by_place further zero f None is e at = let same : y ≡ x = (let s : Some y ≡ Some x = at in cc) in subst (λ (z : X). p z ≡ false) same f
      by_place further (suc k) f None is e at = further is k x at

get_kept : {X : Type 0} (xs ys : List X) (i : ℕ) (x : X) → slice_get xs i ≡ Some x → slice_get (xs ++ ys) i ≡ Some x
get_kept [] ys i x h = cc
get_kept (z ∷ zs) ys zero x h = h
get_kept (z ∷ zs) ys (suc i) x h = get_kept zs ys i x h

get_front : {X : Type 0} (xs : List X) (y : X) (i : ℕ) (x : X) → slice_get (xs ++ y ∷ []) i ≡ Some x → (y ≡ x → ⊥) → slice_get xs i ≡ Some x
get_front [] y zero x h apart = absurd (apart (let s : Some y ≡ Some x = h in cc))
get_front [] y (suc i) x h apart = cc
get_front (z ∷ zs) y zero x h apart = h
get_front (z ∷ zs) y (suc i) x h apart = get_front zs y i x h apart

-- a name that stands at two places stands at one
has_name : (q : List ℕ) (ns : List (List ℕ)) (k : ℕ) → slice_get ns k ≡ Some q → list_any (bytes_eq q) ns ≡ true
has_name q [] k h = cc
has_name q (n ∷ ns) zero h = let same : n ≡ q = (let s : Some n ≡ Some q = h in cc) in rw (same, same_name q) refl
has_name q (n ∷ ns) (suc k) h = by_bool (bytes_eq q n) (λ t. rw t refl) (λ f. rw f (has_name q ns k h))

pub one_place : (q : List ℕ) (ns : List (List ℕ)) → has_repeats ns ≡ false → (i k : ℕ) → slice_get ns i ≡ Some q → slice_get ns k ≡ Some q → i ≡ k
one_place q [] distinct i k h g = cc
one_place q (n ∷ ns) distinct zero zero h g = refl
one_place q (n ∷ ns) distinct (suc i) (suc k) h g = ap suc (one_place q ns (or_false (list_any (bytes_eq n) ns) (has_repeats ns) distinct).1 i k h g)
one_place q (n ∷ ns) distinct zero (suc k) h g =
    let same : n ≡ q = (let s : Some n ≡ Some q = h in cc) in
    clash (list_any (bytes_eq q) ns) (has_name q ns k g) (subst (λ (m : List ℕ). list_any (bytes_eq m) ns ≡ false) same (or_false (list_any (bytes_eq n) ns) (has_repeats ns) distinct).0)
one_place q (n ∷ ns) distinct (suc i) zero h g =
    let same : n ≡ q = (let s : Some n ≡ Some q = g in cc) in
    clash (list_any (bytes_eq q) ns) (has_name q ns i h) (subst (λ (m : List ℕ). list_any (bytes_eq m) ns ≡ false) same (or_false (list_any (bytes_eq n) ns) (has_repeats ns) distinct).0)

-- ---- the first broken edge of several lists

pub both_ok : (r s : Result (Unit {0}) Edge) → both r s ≡ Ok (tt {0}) → (r ≡ Ok (tt {0})) × (s ≡ Ok (tt {0}))
both_ok (Ok u) s h = (refl, h)
both_ok (Err e) s h = cc

-- a list that has no broken edge, and one item's part of it
each_unbroken : {X : Type 0} (ds : List Declaration) (h : ℕ × X → List Edge) (a : ℕ) (xs : List X) → first_broken ds (flat_map h (enumerate_from a xs)) ≡ Ok (tt {0})
    → (i k : ℕ) (x : X) → i ≡ a + k → slice_get xs k ≡ Some x → first_broken ds (h (i, x)) ≡ Ok (tt {0})
each_unbroken ds h a [] none i k x is at = cc
each_unbroken {X} ds h a (y ∷ ys) none i k x is at = by_place (each_unbroken ds h (a + 1) ys parts.1) k is at
  where
    parts : (first_broken ds (h (a, y)) ≡ Ok (tt {0})) × (first_broken ds (flat_map h (enumerate_from (a + 1) ys)) ≡ Ok (tt {0}))
    parts = both_ok (first_broken ds (h (a, y))) (first_broken ds (flat_map h (enumerate_from (a + 1) ys))) (sym (edges_joined ds (h (a, y)) (flat_map h (enumerate_from (a + 1) ys))) ∙ none)

    by_place : ((i k : ℕ) (x : X) → i ≡ a + 1 + k → slice_get ys k ≡ Some x → first_broken ds (h (i, x)) ≡ Ok (tt {0})) → (k : ℕ) → i ≡ a + k → slice_get (y ∷ ys) k ≡ Some x → first_broken ds (h (i, x)) ≡ Ok (tt {0})
    by_place further zero is at =
        let same : y ≡ x = (let s : Some y ≡ Some x = at in cc) in
        let place : a ≡ i = omega (arith, is) in
        subst (λ (j : ℕ). first_broken ds (h (j, x)) ≡ Ok (tt {0})) place (subst (λ (z : X). first_broken ds (h (a, z)) ≡ Ok (tt {0})) same parts.0)
    by_place further (suc k) is at = further i k x (omega (arith, is)) at

-- where each item gives one answer or none, the list gives it or none
either_answer : {X : Type 0} (ds : List Declaration) (h : ℕ × X → List Edge) (r : Result (Unit {0}) Edge) (a : ℕ) (xs : List X)
    → ((i k : ℕ) (x : X) → i ≡ a + k → slice_get xs k ≡ Some x → (first_broken ds (h (i, x)) ≡ r) ⊎ (first_broken ds (h (i, x)) ≡ Ok (tt {0})))
    → (first_broken ds (flat_map h (enumerate_from a xs)) ≡ r) ⊎ (first_broken ds (flat_map h (enumerate_from a xs)) ≡ Ok (tt {0}))
either_answer ds h r a [] each = inr refl
either_answer ds h r a (y ∷ ys) each =
    by (each a 0 y (omega arith) refl) (either_answer ds h r (a + 1) ys (λ i k x is at. each i (suc k) x (omega (arith, is)) at))
  where
    join : first_broken ds (flat_map h (enumerate_from a (y ∷ ys))) ≡ both (first_broken ds (h (a, y))) (first_broken ds (flat_map h (enumerate_from (a + 1) ys)))
    join = edges_joined ds (h (a, y)) (flat_map h (enumerate_from (a + 1) ys))

    one : (s : Result (Unit {0}) Edge) → both s s ≡ s
    one (Ok u) = refl
    one (Err e) = refl

    fore : (s : Result (Unit {0}) Edge) → both s (Ok (tt {0})) ≡ s
    fore (Ok u) = refl
    fore (Err e) = refl

    by : (first_broken ds (h (a, y)) ≡ r) ⊎ (first_broken ds (h (a, y)) ≡ Ok (tt {0}))
        → (first_broken ds (flat_map h (enumerate_from (a + 1) ys)) ≡ r) ⊎ (first_broken ds (flat_map h (enumerate_from (a + 1) ys)) ≡ Ok (tt {0}))
        → (first_broken ds (flat_map h (enumerate_from a (y ∷ ys))) ≡ r) ⊎ (first_broken ds (flat_map h (enumerate_from a (y ∷ ys))) ≡ Ok (tt {0}))
    by (inl p) (inl s) = inl (join ∙ (λ i. both (p i) (s i)) ∙ one r)
    by (inl p) (inr s) = inl (join ∙ (λ i. both (p i) (s i)) ∙ fore r)
    by (inr p) (inl s) = inl (join ∙ (λ i. both (p i) (s i)))
    by (inr p) (inr s) = inr (join ∙ (λ i. both (p i) (s i)))

-- and it gives it where some item does
one_answer : {X : Type 0} (ds : List Declaration) (h : ℕ × X → List Edge) (r : Result (Unit {0}) Edge) (a : ℕ) (xs : List X)
    → ((i k : ℕ) (x : X) → i ≡ a + k → slice_get xs k ≡ Some x → (first_broken ds (h (i, x)) ≡ r) ⊎ (first_broken ds (h (i, x)) ≡ Ok (tt {0})))
    → (i k : ℕ) (x : X) → i ≡ a + k → slice_get xs k ≡ Some x → first_broken ds (h (i, x)) ≡ r → first_broken ds (flat_map h (enumerate_from a xs)) ≡ r
one_answer ds h r a xs each i k x is at here = by (either_answer ds h r a xs each)
  where
    by : (first_broken ds (flat_map h (enumerate_from a xs)) ≡ r) ⊎ (first_broken ds (flat_map h (enumerate_from a xs)) ≡ Ok (tt {0})) → first_broken ds (flat_map h (enumerate_from a xs)) ≡ r
    by (inl e) = e
    by (inr e) = e ∙ sym (each_unbroken ds h a xs e i k x is at) ∙ here

-- ---- one declaration more

module _ (ds : List Declaration) (d : Declaration) where
  abbrev more : List Declaration
  more = ds ++ d ∷ []

  pub names_more : namespace_names more ≡ with_name (namespace_names ds) d.name
  names_more = names_after-push [] ds d

  get_named : (k : ℕ) (q : List ℕ) → slice_get (namespace_names ds) k ≡ Some q → slice_get (namespace_names more) k ≡ Some q
  get_named k q h = rw names_more (by_bool (list_any (bytes_eq d.name) (namespace_names ds)) (λ t. rw t h) (λ f. rw f (get_kept (namespace_names ds) (d.name ∷ []) k q h)))

  -- a namespace keeps its number
  pub name_kept : (n : ℕ) (q : List ℕ) → namespace_numbered n ds ≡ Some q → namespace_numbered n more ≡ Some q
  name_kept zero q h = cc
  name_kept (suc n) q h =
      let least : 1 ≤ suc n = omega arith in
      let before : suc n - 1 ≡ n = omega arith in
      item_at-place (suc n) n (namespace_names more) least before ∙ get_named n q (sym (item_at-place (suc n) n (namespace_names ds) least before) ∙ h)

  -- the number of a relation has that of its namespace
  pub premise_named : (q p : List ℕ) (m : RelNo) → number_of q p ds ≡ Some m → namespace_numbered m.namespace ds ≡ Some q
  premise_named q p m h = by (position (bytes_eq q) (namespace_names ds)) refl h
    where
      by_relation : (i : ℕ) → position (bytes_eq q) (namespace_names ds) ≡ Some i → (o : Option ℕ) → option_map (λ r. record { namespace = i + 1; relation = r }) o ≡ Some m → namespace_numbered m.namespace ds ≡ Some q
      by_relation i is None g = cc
      by_relation i is (Some r) g =
          let w = position_item (bytes_eq q) (namespace_names ds) i is in
          let same : record { namespace = i + 1; relation = r } ≡ m = (let s : Some (record { namespace = i + 1; relation = r }) ≡ Some m = g in cc) in
          let number : i + 1 ≡ m.namespace = ap (λ (x : RelNo). x.namespace) same in
          let least : 1 ≤ i + 1 = omega arith in
          let before : i + 1 - 1 ≡ i = omega arith in
          subst (λ (n : ℕ). namespace_numbered n ds ≡ Some q) number
          (item_at-place (i + 1) i (namespace_names ds) least before ∙ w.1 ∙ ap Some (sym (one_name q w.0 w.2)))

      by : (o : Option ℕ) → position (bytes_eq q) (namespace_names ds) ≡ o
          → option_and_then (λ n. option_map (λ r. record { namespace = n; relation = r }) (option_and_then (λ rs. place_of p (relation_names rs)) (relations_of q ds))) (option_map (λ i. i + 1) o) ≡ Some m
          → namespace_numbered m.namespace ds ≡ Some q
      by None is g = cc
      by (Some i) is g = by_relation i is (option_and_then (λ rs. place_of p (relation_names rs)) (relations_of q ds)) g

  module _ (q : List ℕ) (other : bytes_eq q d.name ≡ false) where
    differs : d.name ≡ q → ⊥
    differs same = clash (bytes_eq q d.name) (rw same (same_name q)) other

    name_was : (k : ℕ) → slice_get (namespace_names more) k ≡ Some q → slice_get (namespace_names ds) k ≡ Some q
    name_was k h = by_bool (list_any (bytes_eq d.name) (namespace_names ds))
        (λ t. rw (names_more, t) at h)
        (λ f. let g : slice_get (namespace_names ds ++ d.name ∷ []) k ≡ Some q = rw (names_more, f) at h in get_front (namespace_names ds) d.name k q g differs)

    pub place_same : place_of q (namespace_names more) ≡ place_of q (namespace_names ds)
    place_same = rw names_more (by_bool (list_any (bytes_eq d.name) (namespace_names ds)) (λ t. rw t refl) (λ f. rw (f, position_more (bytes_eq q) (namespace_names ds) d.name other) refl))

    relations_same_in : (cs : List Declaration) → relations_of q (cs ++ d ∷ []) ≡ relations_of q cs
    relations_same_in [] = rw other refl
    relations_same_in (c ∷ cs) = rw (relations_same_in cs) refl

    history_same_in : (r : List ℕ) (cs : List Declaration) → history q r (cs ++ d ∷ []) ≡ history q r cs
    history_same_in r [] = rw other refl
    history_same_in r (c ∷ cs) = rw (history_same_in r cs) refl

    pub number_same : (p : List ℕ) → number_of q p more ≡ number_of q p ds
    number_same p = rw (place_same, relations_same_in ds) refl

    pub stratum_same : (m : RelNo) → namespace_numbered m.namespace ds ≡ Some q → stratum_numbered more m ≡ stratum_numbered ds m
    stratum_same m named = rw (name_kept m.namespace q named, named, relations_same_in ds) refl

    -- what the rules of that namespace read of it
    rule_kept : IsKept ds more (read_by_rule q)
    rule_kept = record {
      number = number_of_place;
      stratum = λ place p m read found. stratum_of_place place p m read found;
    }
      where
        number_of_place : (place : Place) (p : RelationName) → read_by_rule q place ≡ Some p → number_of p.namespace p.relation more ≡ number_of p.namespace p.relation ds
        number_of_place at_this p read = cc
        number_of_place (at_computed r) p read =
            let same : record { namespace = q; relation = r } ≡ p = cc in
            subst (λ (x : RelationName). number_of x.namespace x.relation more ≡ number_of x.namespace x.relation ds) same (number_same r)
        number_of_place (at_tuple_to t c) p read = cc

        stratum_of_place : (place : Place) (p : RelationName) (m : RelNo) → read_by_rule q place ≡ Some p → number_of p.namespace p.relation ds ≡ Some m → stratum_numbered more m ≡ stratum_numbered ds m
        stratum_of_place at_this p m read found = cc
        stratum_of_place (at_computed r) p m read found =
            let same : record { namespace = q; relation = r } ≡ p = cc in
            stratum_same m (premise_named q r m (subst (λ (x : RelationName). number_of x.namespace x.relation ds ≡ Some m) (sym same) found))
        stratum_of_place (at_tuple_to t c) p m read found = cc

    module _ (reads : Place → Option RelationName) (kept : IsKept ds more reads) (n : ℕ) (named : namespace_numbered n ds ≡ Some q) where
      module _ (r : ℕ) where
        abbrev reader : RelNo
        reader = record { namespace = n; relation = r }

        numbered_same : history_numbered reader more ≡ history_numbered reader ds
        numbered_same = rw (name_kept n q named, named, relations_same_in ds) (by (option_and_then (item_at r) (relations_of q ds)))
          where
            by : (o : Option Relation) → unwrap_or (option_map (λ (x : Relation). history q x.name more) o) [] ≡ unwrap_or (option_map (λ (x : Relation). history q x.name ds) o) []
            by None = refl
            by (Some x) = history_same_in x.name ds

        pub relation_same : first_broken more (relation_edges more reads reader) ≡ first_broken ds (relation_edges ds reads reader)
        relation_same = rw numbered_same (rules_same ds more reads kept reader (stratum_same reader named) (history_numbered reader ds))

      in_same : relations_in more n ≡ relations_in ds n
      in_same = rw (name_kept n q named, named, relations_same_in ds) refl

      -- the first broken edge of another namespace stays
      pub namespace_same : first_broken more (namespace_edges more reads n) ≡ first_broken ds (namespace_edges ds reads n)
      namespace_same =
          rw in_same
          (flat_same more ds (λ r. relation_edges more reads (record { namespace = n; relation = r })) (λ r. relation_edges ds reads (record { namespace = n; relation = r }))
          relation_same (range_with_len 1 (length (relations_in ds n))))

  module _ (distinct : has_repeats (namespace_names more) ≡ false) (none : first_broken ds (rule_edges ds) ≡ Ok (tt {0})) where
    abbrev of_one : ℕ × List ℕ → List Edge
    of_one p = namespace_edges more (read_by_rule p.1) p.0

    other_unbroken : (i k : ℕ) (q : List ℕ) → bytes_eq q d.name ≡ false → i ≡ 1 + k → slice_get (namespace_names more) k ≡ Some q → first_broken more (of_one (i, q)) ≡ Ok (tt {0})
    other_unbroken i k q other is at =
        let was = name_was q other k at in
        let least : 1 ≤ i = omega (arith, is) in
        let before : i - 1 ≡ k = omega (arith, is) in
        namespace_same q other (read_by_rule q) (rule_kept q other) i (item_at-place i k (namespace_names ds) least before ∙ was)
        ∙ each_unbroken ds (λ (p : ℕ × List ℕ). namespace_edges ds (read_by_rule p.1) p.0) 1 (namespace_names ds) none i k q is was

    newest_first : first_broken more (edges_of_namespace more d.name) ≡ first_broken more (rule_edges more)
    newest_first = by (position (bytes_eq d.name) (namespace_names more)) refl
      where
        by : (o : Option ℕ) → position (bytes_eq d.name) (namespace_names more) ≡ o
            → first_broken more (unwrap_or (option_map (namespace_edges more (read_by_rule d.name)) (option_map (λ i. i + 1) o)) []) ≡ first_broken more (rule_edges more)
        by None is =
            sym (elim (either_answer more of_one (Ok (tt {0})) 1 (namespace_names more)
            (λ i k q e at. inr (other_unbroken i k q (other_name d.name q (position_none (bytes_eq d.name) (namespace_names more) is k q at)) e at))) [ inl e ↦ e | inr e ↦ e ])
        by (Some j) is =
            let w = position_item (bytes_eq d.name) (namespace_names more) j is in
            let there : slice_get (namespace_names more) j ≡ Some d.name = w.1 ∙ ap Some (sym (one_name d.name w.0 w.2)) in
            sym (one_answer more of_one (first_broken more (of_one (j + 1, d.name))) 1 (namespace_names more)
            (λ i k q e at. by_bool (bytes_eq q d.name)
            (λ t.
            let same : q ≡ d.name = one_name q d.name t in
            let place : k ≡ j = one_place d.name (namespace_names more) distinct k j (at ∙ ap Some same) there in
            let number : i ≡ j + 1 = omega (arith, e, place) in
            inl (λ l. first_broken more (of_one (number l, same l))))
            (λ f. inr (other_unbroken i k q f e at)))
            (j + 1) j d.name (omega arith) there refl)

pub distinct_after : (names : List (List ℕ)) (cs : List Declaration) → has_repeats names ≡ false → has_repeats (names_after names cs) ≡ false
distinct_after names [] h = h
distinct_after names (c ∷ cs) h = distinct_after (with_name names c.name) cs (has_repeats-with_name names c.name h)

-- after a declaration of a namespace its edges decide
pub newest_decides : (es ds : List Declaration) (d : Declaration) (q : List ℕ) → es ≡ ds ++ d ∷ [] → d.name ≡ q → first_broken ds (rule_edges ds) ≡ Ok (tt {0})
    → first_broken es (edges_of_namespace es q) ≡ first_broken es (rule_edges es)
newest_decides es ds d q are named none =
    subst (λ (cs : List Declaration). first_broken cs (edges_of_namespace cs q) ≡ first_broken cs (rule_edges cs)) (sym are)
    (subst (λ (n : List ℕ). first_broken (ds ++ d ∷ []) (edges_of_namespace (ds ++ d ∷ []) n) ≡ first_broken (ds ++ d ∷ []) (rule_edges (ds ++ d ∷ []))) named
    (newest_first ds d (distinct_after [] (ds ++ d ∷ []) refl) none))
