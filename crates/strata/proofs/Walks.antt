-- Walks over edges, list by list.
use Rattle.std.proofs.Common.{is_some, subst, add-one, ◌≡◌, ℕ, zero, suc, ◌+◌, ◌-◌, ◌<◌, ◌≤◌, List, [], ◌∷◌, ◌++◌, length, drop, slice_get, find, Bool, ◌||◌, true, false, Option, None, Some, option_map, option_and_then, unwrap_or, Result, Ok, Err, refl, sym, ap, ◌∙◌, arith}
use Rattle.std.specs.Option.{option_or}
use Rattle.std.specs.List.{flat_map, filter_map, enumerate_from, range_with_len, cons_option}
use Rattle.std.proofs.lemmas.List.Folds.{find-append}
use Rattle.std.proofs.lemmas.List.Elements.{filter_map-append}
use Rattle.namespaces.specs.declared.number.RelNo.{RelNo}
use Rattle.namespaces.specs.Adding.{has_repeats}
use Rattle.tuple_text.specs.Sets.{SetValue}
use Rattle.rewrites.specs.Expression.{Expression, this, computed, tuple_to, union, inter, minus, Expressions, no_child, child}
use Rattle.namespaces.specs.Declaration.{Relation, Declaration}
use Rattle.namespaces.specs.Lookup.{declared_in, history, relation_named, relation_names, relations_of, relation_of, namespace_names, namespace_numbered, relation_numbered, history_numbered, item_at}
use Rattle.namespaces.specs.WellFormed.{IsFit, IsWellFormed}
use Rattle.namespaces.proofs.Kept.{named_by_place}
use Rattle.namespaces.proofs.Times.{from_one}
use Rattle.namespaces.proofs.Numbering.{item_at-place}
use Rattle.std.proofs.lemmas.Option.{slice_get_within}
pub use Rattle.rewrites.proofs.Walks.{children_step}
use Rattle.strata.proofs.Unbroken.{item_least, item_there}
use Rattle.strata.specs.declared.edge.Edge.{Edge}
use Rattle.strata.specs.Edges.{RelationName, Place, edge_at, edges_in, relations_in, namespace_edges, last_relation_edges, read_by_rule, stratum_numbered, is_broken, refused, first_broken, places, all_places, read_through}
use Rattle.strata.specs.Sights.{reads_tupleset, some_reads_tupleset}

-- the first refusal of two
abbrev pub both : Result (Unit {0}) Edge → Result (Unit {0}) Edge → Result (Unit {0}) Edge
both (Ok u) next = next
both (Err e) next = Err e

refused-or : (o p : Option Edge) → refused (option_or o p) ≡ both (refused o) (refused p)
refused-or None p = refl
refused-or (Some e) p = refl

-- the edges of one list are looked at before those of the next
pub edges_joined : (ds : List Declaration) (xs ys : List Edge) → first_broken ds (xs ++ ys) ≡ both (first_broken ds xs) (first_broken ds ys)
edges_joined ds xs ys = ap refused (find-append (is_broken ds) xs ys) ∙ refused-or (find (is_broken ds) xs) (find (is_broken ds) ys)

-- places of two lists, by what they read
pub places_joined : (ds : List Declaration) (reader : RelNo) (reads : Place → Option RelationName) (xs ys : List (Bool × Place))
    → first_broken ds (filter_map (edge_at ds reader reads) (xs ++ ys))
    ≡ both (first_broken ds (filter_map (edge_at ds reader reads) xs)) (first_broken ds (filter_map (edge_at ds reader reads) ys))
places_joined ds reader reads xs ys =
    ap (first_broken ds) (filter_map-append (edge_at ds reader reads) xs ys)
    ∙ edges_joined ds (filter_map (edge_at ds reader reads) xs) (filter_map (edge_at ds reader reads) ys)

-- ---- lists from a place on

drop_suc : {X : Type 0} (xs : List X) (i : ℕ) (x : X) → slice_get xs i ≡ Some x → drop i xs ≡ x ∷ drop (suc i) xs
drop_suc [] i x h = cc
drop_suc (y ∷ ys) zero x h = let there : Some y ≡ Some x = h in let e : y ≡ x = cc in ap (λ z. z ∷ ys) e
drop_suc (y ∷ ys) (suc i) x h = drop_suc ys i x h

drop_at : {X : Type 0} (xs : List X) (i : ℕ) (x : X) → slice_get xs i ≡ Some x → drop i xs ≡ x ∷ drop (i + 1) xs
drop_at xs i x h = drop_suc xs i x h ∙ ap (λ n. x ∷ drop n xs) (sym (add-one i))

drop_past : {X : Type 0} (xs : List X) (i : ℕ) → slice_get xs i ≡ None → drop i xs ≡ []
drop_past [] zero h = refl
drop_past [] (suc i) h = refl
drop_past (y ∷ ys) zero h = cc
drop_past (y ∷ ys) (suc i) h = drop_past ys i h

drop_long : {X : Type 0} (xs : List X) (i : ℕ) → length xs ≤ i → drop i xs ≡ []
drop_long [] zero h = refl
drop_long [] (suc i) h = refl
drop_long (y ∷ ys) zero h = absurd (omega (arith, h))
drop_long (y ∷ ys) (suc i) h = let less : length ys ≤ i = omega (arith, h) in drop_long ys i less

length_past : {X : Type 0} (xs : List X) (i : ℕ) → slice_get xs i ≡ None → length xs ≤ i
length_past [] i h = omega arith
length_past (y ∷ ys) zero h = cc
length_past (y ∷ ys) (suc i) h = let past = length_past ys i h in omega arith

-- ---- the rules of a relation

given_length : {X : Type 0} (o : Option X) (xs : List X) (n : ℕ) → length xs ≤ n → length (cons_option o xs) ≤ suc n
given_length None xs n h = omega (arith, h)
given_length (Some x) xs n h = omega (arith, h)

history_length : (q r : List ℕ) (ds : List Declaration) → length (history q r ds) ≤ length ds
history_length q r [] = omega arith
history_length q r (d ∷ ds) = given_length (declared_in q r d) (history q r ds) (length ds) (history_length q r ds)

numbered_length : (ds : List Declaration) (number : RelNo) → length (history_numbered number ds) ≤ length ds
numbered_length ds number = by_namespace (namespace_numbered number.namespace ds)
  where
    by_relation : (q : List ℕ) (o : Option Relation) → length (unwrap_or (option_map (λ (r : Relation). history q r.name ds) o) []) ≤ length ds
    by_relation q None = omega arith
    by_relation q (Some r) = history_length q r.name ds

    by_namespace : (o : Option (List ℕ)) → length (unwrap_or (option_and_then (λ q. option_map (λ (r : Relation). history q r.name ds) (relation_numbered number ds)) o) []) ≤ length ds
    by_namespace None = omega arith
    by_namespace (Some q) = by_relation q (relation_numbered number ds)

module _ (ds : List Declaration) (reads : Place → Option RelationName) (reader : RelNo) where
  -- the edges of the rules from number k on
  abbrev pub edges_from : ℕ → List Edge
  edges_from k = flat_map (λ (r : Relation). edges_in ds reader reads r.expression) (drop k (history_numbered reader ds))

  pub edges_next : (k : ℕ) (e : Expression) → Some e ≡ option_map (λ (r : Relation). r.expression) (slice_get (history_numbered reader ds) k)
      → first_broken ds (edges_from k) ≡ both (first_broken ds (edges_in ds reader reads e)) (first_broken ds (edges_from (k + 1)))
  edges_next k e h = by (slice_get (history_numbered reader ds) k) refl h
    where
      by : (o : Option Relation) → slice_get (history_numbered reader ds) k ≡ o → Some e ≡ option_map (λ (r : Relation). r.expression) o
          → first_broken ds (edges_from k) ≡ both (first_broken ds (edges_in ds reader reads e)) (first_broken ds (edges_from (k + 1)))
      by None at h = cc
      by (Some r) at h =
          let same : e ≡ r.expression = cc in
          rw (drop_at (history_numbered reader ds) k r at, same) (edges_joined ds (edges_in ds reader reads r.expression) (edges_from (k + 1)))

  pub edges_end : (k : ℕ) → None ≡ option_map (λ (r : Relation). r.expression) (slice_get (history_numbered reader ds) k) → first_broken ds (edges_from k) ≡ Ok (tt {0})
  edges_end k h = rw (drop_past (history_numbered reader ds) k (none_there (slice_get (history_numbered reader ds) k) h)) refl
    where
      none_there : (o : Option Relation) → None ≡ option_map (λ (r : Relation). r.expression) o → o ≡ None
      none_there None h = refl
      none_there (Some r) h = cc

  pub edges_past : first_broken ds (edges_from (length ds)) ≡ Ok (tt {0})
  edges_past = rw (drop_long (history_numbered reader ds) (length ds) (numbered_length ds reader)) refl

-- the edges of its last rule
pub last_rule_edges : (ds : List Declaration) (reads : Place → Option RelationName) (reader : RelNo) (e : Expression)
    → Some e ≡ option_map (λ (r : Relation). r.expression) (relation_numbered reader ds) → last_relation_edges ds reads reader ≡ edges_in ds reader reads e
last_rule_edges ds reads reader e h = by (relation_numbered reader ds) h
  where
    by : (o : Option Relation) → Some e ≡ option_map (λ (r : Relation). r.expression) o → unwrap_or (option_map (λ (r : Relation). edges_in ds reader reads r.expression) o) [] ≡ edges_in ds reader reads e
    by None h = cc
    by (Some r) h = let same : r.expression ≡ e = cc in ap (edges_in ds reader reads) same

-- ---- relations and namespaces, number by number

-- the stratum of a relation that has a number, by the names of both
pub stratum_by_names : (ds : List Declaration) (number : RelNo) (q r : List ℕ) → IsWellFormed ds → Some q ≡ namespace_numbered number.namespace ds
    → Some r ≡ option_map (λ (x : Relation). x.name) (relation_numbered number ds)
    → option_map (λ (x : Relation). x.stratum) (relation_of q r ds) ≡ stratum_numbered ds number
stratum_by_names ds number q r w named is = by (relations_of q ds) refl
  where
    by_place : (rs : List Relation) → relations_of q ds ≡ Some rs → (o : Option Relation) → item_at number.relation rs ≡ o
        → Some r ≡ option_map (λ (x : Relation). x.name) o → option_map (λ (x : Relation). x.stratum) (relation_named r rs) ≡ option_map (λ (x : Relation). x.stratum) o
    by_place rs all None at h = cc
    by_place rs all (Some x) at h =
        let one = from_one IsFit q rs ds w.fit all in
        let same : r ≡ x.name = cc in
        let distinct : has_repeats (relation_names rs) ≡ false = subst (λ ys. has_repeats (relation_names ys) ≡ false) one.shown one.has.distinct in
        let found : relation_named r rs ≡ Some x = rw same (named_by_place x rs (number.relation - 1) distinct (item_there number.relation rs x at)) in
        rw found refl

    by : (o : Option (List Relation)) → relations_of q ds ≡ o → option_map (λ (x : Relation). x.stratum) (relation_of q r ds) ≡ stratum_numbered ds number
    by None all = let no : Some r ≡ None = rw (← named, all) at is in cc
    by (Some rs) all =
        rw (← named, all) (by_place rs all (item_at number.relation rs) refl (rw (← named, all) at is))

module _ (ds : List Declaration) (edges : RelNo → List Edge) (n : ℕ) where
  -- the edges of the relations from number r on
  abbrev pub relations_from : ℕ → List Edge
  relations_from r = flat_map (λ k. edges (record { namespace = n; relation = k })) (range_with_len r (suc (length (relations_in ds n)) - r))

  abbrev relation_number : ℕ → RelNo
  relation_number r = record { namespace = n; relation = r }

  -- a relation that has a number is one of its namespace
  numbered_within : (r : ℕ) → is_some (relation_numbered (relation_number r) ds) ≡ true → (1 ≤ r) × (r ≤ length (relations_in ds n))
  numbered_within r is = by_namespace (namespace_numbered n ds) is
    where
      by_item : (rs : List Relation) (o : Option Relation) → item_at r rs ≡ o → is_some o ≡ true → (1 ≤ r) × (r ≤ length rs)
      by_item rs None at h = cc
      by_item rs (Some x) at h =
          let least = item_least r rs x at in
          let within = slice_get_within rs (r - 1) x (item_there r rs x at) in
          (least, omega arith)

      by_relations : (o : Option (List Relation)) → is_some (option_and_then (item_at r) o) ≡ true → (1 ≤ r) × (r ≤ length (unwrap_or o []))
      by_relations None h = cc
      by_relations (Some rs) h = by_item rs (item_at r rs) refl h

      by_namespace : (o : Option (List ℕ)) → is_some (option_and_then (λ q. option_and_then (item_at r) (relations_of q ds)) o) ≡ true
          → (1 ≤ r) × (r ≤ length (unwrap_or (option_and_then (λ q. relations_of q ds) o) []))
      by_namespace None h = cc
      by_namespace (Some q) h = by_relations (relations_of q ds) h

  -- and a number that none has is past them all
  numbered_past : (r : ℕ) → 1 ≤ r → is_some (relation_numbered (relation_number r) ds) ≡ false → length (relations_in ds n) < r
  numbered_past r least is = by_namespace (namespace_numbered n ds) is
    where
      by_item : (rs : List Relation) (o : Option Relation) → item_at r rs ≡ o → is_some o ≡ false → length rs < r
      by_item rs (Some x) at h = cc
      by_item rs None at h =
          let past = length_past rs (r - 1) (sym (item_at-place r (r - 1) rs least refl) ∙ at) in
          omega (arith, least)

      by_relations : (o : Option (List Relation)) → is_some (option_and_then (item_at r) o) ≡ false → length (unwrap_or o []) < r
      by_relations None h = omega (arith, least)
      by_relations (Some rs) h = by_item rs (item_at r rs) refl h

      by_namespace : (o : Option (List ℕ)) → is_some (option_and_then (λ q. option_and_then (item_at r) (relations_of q ds)) o) ≡ false
          → length (unwrap_or (option_and_then (λ q. relations_of q ds) o) []) < r
      by_namespace None h = omega (arith, least)
      by_namespace (Some q) h = by_relations (relations_of q ds) h

  relations_left : (r : ℕ) → is_some (relation_numbered (relation_number r) ds) ≡ true
      → first_broken ds (relations_from r) ≡ both (first_broken ds (edges (relation_number r))) (first_broken ds (relations_from (r + 1)))
  relations_left r is =
      let within = numbered_within r is in
      let left : suc (length (relations_in ds n)) - r ≡ suc (suc (length (relations_in ds n)) - (r + 1)) = omega (arith, within.1) in
      rw left (edges_joined ds (edges (relation_number r)) (relations_from (r + 1)))

  relations_none : (r : ℕ) → 1 ≤ r → is_some (relation_numbered (relation_number r) ds) ≡ false → first_broken ds (relations_from r) ≡ Ok (tt {0})
  relations_none r least is =
      let past = numbered_past r least is in
      let none : suc (length (relations_in ds n)) - r ≡ 0 = omega (arith, past) in
      rw none refl

-- a walk over the relations of a namespace: of all edges what decides are those of the relations from a number on
pub record AreFromNumber (ds : List Declaration) (edges : RelNo → List Edge) (all : List Edge) (n : ℕ)
    (at : RelNo) : Type 0 where
  pub number : at.namespace ≡ n
  pub least : 1 ≤ at.relation
  pub left : first_broken ds all ≡ first_broken ds (relations_from ds edges n at.relation)

-- a relation number is asked for by something of the relation, and its namespace is that of the walk
module _ {A B : Type 0} (text : A → B) (part : Relation → B) (ds : List Declaration) (edges : RelNo → List Edge) (number : RelNo) (n : ℕ) (here : number.namespace ≡ n)
    (name : Option A) (shown : option_map text name ≡ option_map part (relation_numbered number ds)) where
  is_there : is_some name ≡ is_some (relation_numbered number ds)
  is_there = by name (relation_numbered number ds) shown
    where
      by : (o : Option A) (p : Option Relation) → option_map text o ≡ option_map part p → is_some o ≡ is_some p
      by None None h = refl
      by None (Some x) h = cc
      by (Some s) None h = cc
      by (Some s) (Some x) h = refl

  pub relations_next : is_some name ≡ true
      → first_broken ds (relations_from ds edges n number.relation)
      ≡ both (first_broken ds (edges number)) (first_broken ds (relations_from ds edges n (number.relation + 1)))
  relations_next h = rw (← here) (relations_left ds edges number.namespace number.relation (sym is_there ∙ h))

  pub relations_end : 1 ≤ number.relation → is_some name ≡ false → first_broken ds (relations_from ds edges n number.relation) ≡ Ok (tt {0})
  relations_end least h = rw (← here) (relations_none ds edges number.namespace number.relation least (sym is_there ∙ h))

  pub relation_within : is_some name ≡ true → number.relation ≤ length (relations_in ds n)
  relation_within h = rw (← here) (numbered_within ds edges number.namespace number.relation (sym is_there ∙ h)).1

pub few_relations : (ds : List Declaration) (n : ℕ) → IsWellFormed ds → length (relations_in ds n) ≤ 256
few_relations ds n w = by_namespace (namespace_numbered n ds)
  where
    by_relations : (q : List ℕ) (o : Option (List Relation)) → relations_of q ds ≡ o → length (unwrap_or o []) ≤ 256
    by_relations q None at = omega arith
    by_relations q (Some rs) at = let one = from_one IsFit q rs ds w.fit at in subst (λ ys. length ys ≤ 256) one.shown one.has.count

    by_namespace : (o : Option (List ℕ)) → length (unwrap_or (option_and_then (λ q. relations_of q ds) o) []) ≤ 256
    by_namespace None = omega arith
    by_namespace (Some q) = by_relations q (relations_of q ds) refl

module _ (ds : List Declaration) where
  -- the edges of the namespaces from number n on
  abbrev pub namespaces_from : ℕ → List Edge
  namespaces_from n = flat_map (λ (p : ℕ × List ℕ). namespace_edges ds (read_by_rule p.1) p.0) (enumerate_from n (drop (n - 1) (namespace_names ds)))

  pub namespaces_next : (n : ℕ) (q : List ℕ) → namespace_numbered n ds ≡ Some q
      → first_broken ds (namespaces_from n) ≡ both (first_broken ds (namespace_edges ds (read_by_rule q) n)) (first_broken ds (namespaces_from (n + 1)))
  namespaces_next n q h =
      let least = item_least n (namespace_names ds) q h in
      let next : n - 1 + 1 ≡ n + 1 - 1 = omega (arith, least) in
      rw (drop_at (namespace_names ds) (n - 1) q (item_there n (namespace_names ds) q h), next)
      (edges_joined ds (namespace_edges ds (read_by_rule q) n) (namespaces_from (n + 1)))

  pub namespaces_end : (n : ℕ) → 1 ≤ n → namespace_numbered n ds ≡ None → first_broken ds (namespaces_from n) ≡ Ok (tt {0})
  namespaces_end n least h =
      rw (drop_past (namespace_names ds) (n - 1) (sym (item_at-place n (n - 1) (namespace_names ds) least refl) ∙ h)) refl

  pub namespace_within : (n : ℕ) (q : List ℕ) → namespace_numbered n ds ≡ Some q → n ≤ length (namespace_names ds)
  namespace_within n q h =
      let least = item_least n (namespace_names ds) q h in
      let within = slice_get_within (namespace_names ds) (n - 1) q (item_there n (namespace_names ds) q h) in
      omega (arith, least)

-- ---- rules that read no tupleset

or_false : (a b : Bool) → (a || b) ≡ false → (a ≡ false) × (b ≡ false)
or_false false b h = (refl, h)
or_false true b h = cc

module _ (ds : List Declaration) (reader : RelNo) (r : List ℕ) (g : SetValue) where
  mutual
    none_through : (b : Bool) (e : Expression) → reads_tupleset e ≡ false → filter_map (edge_at ds reader (read_through r g)) (places b e) ≡ []
    none_through b this h = refl
    none_through b (computed q) h = refl
    none_through b (tuple_to q c) h = cc
    none_through b (union es) h = none_through_all b es h
    none_through b (inter es) h = none_through_all b es h
    none_through b (minus x y) h =
        let one = or_false (reads_tupleset x) (reads_tupleset y) h in
        filter_map-append (edge_at ds reader (read_through r g)) (places b x) (places true y) ∙ rw (none_through b x one.0, none_through true y one.1) refl

    none_through_all : (b : Bool) (es : Expressions) → some_reads_tupleset es ≡ false → filter_map (edge_at ds reader (read_through r g)) (all_places b es) ≡ []
    none_through_all b no_child h = refl
    none_through_all b (child e es) h =
        let one = or_false (reads_tupleset e) (some_reads_tupleset es) h in
        filter_map-append (edge_at ds reader (read_through r g)) (places b e) (all_places b es) ∙ rw (none_through b e one.0, none_through_all b es one.1) refl

  pub rule_unread : (e : Expression) → Some e ≡ option_map (λ (x : Relation). x.expression) (relation_numbered reader ds) → reads_tupleset e ≡ false
      → first_broken ds (last_relation_edges ds (read_through r g) reader) ≡ Ok (tt {0})
  rule_unread e is h = rw (last_rule_edges ds (read_through r g) reader e is, none_through false e h) refl
