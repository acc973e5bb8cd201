-- What it says that no edge of a list is broken, and which edges stand in the lists.
use Rattle.std.proofs.Common.{◌≡◌, ℕ, zero, suc, ◌+◌, ◌-◌, ◌<◌, ◌≤◌, List, [], ◌∷◌, ◌++◌, length, slice_get, Bool, false, Option, None, Some, option_and_then, Ok, Err, ◌⊎◌, inl, inr, refl, subst, sym, ap, ◌∙◌, arith}
use Rattle.std.specs.Prelude.{Contains}
use Rattle.std.specs.List.{flat_map, filter_map, cons_option, enumerate_from, range_with_len}
use Rattle.std.proofs.lemmas.List.Elements.{Contains-append_left, Contains-append_right}
use Rattle.std.proofs.lemmas.Option.{slice_get_within}
use Rattle.namespaces.specs.declared.number.RelNo.{RelNo}
use Rattle.namespaces.specs.Declaration.{Relation, Declaration}
use Rattle.namespaces.specs.Lookup.{namespace_names, relations_of, namespace_numbered, relation_numbered, history_numbered, number_of, item_at}
use Rattle.namespaces.proofs.Declared.{IsPlaced}
use Rattle.namespaces.proofs.Numbering.{item_at-place}
use Rattle.rewrites.proofs.Names.{by_bool}
use Rattle.strata.specs.declared.edge.Edge.{Edge}
use Rattle.strata.specs.Edges.{RelationName, Place, places, edge_at, edges_in, relation_edges, relations_in, namespace_edges, rule_edges, read_by_rule, is_broken, first_broken}
use Rattle.strata.proofs.Lists.{Contains-cons_cases, Contains-here, Contains-there, not_in_nil}

-- ---- members of lists

pub Contains-flat_map : {X Y : Type 0} → (h : X → List Y) (xs : List X) (x : X) (y : Y) → Contains xs x → Contains (h x) y → Contains (flat_map h xs) y
Contains-flat_map h [] x y c d = absurd (not_in_nil x c)
Contains-flat_map {X} {Y} h (z ∷ zs) x y c d = by_cases (λ i. Contains-flat_map h zs x y i d) (Contains-cons_cases z zs x c)
  where
    by_cases : (Contains zs x → Contains (flat_map h zs) y) → (z ≡ x) ⊎ Contains zs x → Contains (h z ++ flat_map h zs) y
    by_cases step (inl e) = Contains-append_left (h z) (flat_map h zs) y (subst (λ (w : X). Contains (h w) y) (sym e) d)
    by_cases step (inr i) = Contains-append_right (h z) (flat_map h zs) y (step i)

first_given : {Y : Type 0} (o : Option Y) (ys : List Y) (y : Y) → o ≡ Some y → Contains (cons_option o ys) y
first_given None ys y h = cc
first_given (Some z) ys y h = let e : z ≡ y = cc in subst (Contains (z ∷ ys)) e (Contains-here z ys)

later_given : {Y : Type 0} (o : Option Y) (ys : List Y) (y : Y) → Contains ys y → Contains (cons_option o ys) y
later_given None ys y c = c
later_given (Some z) ys y c = Contains-there z ys y c

Contains-filter_map : {X Y : Type 0} → (h : X → Option Y) (xs : List X) (x : X) (y : Y) → Contains xs x → h x ≡ Some y → Contains (filter_map h xs) y
Contains-filter_map h [] x y c d = absurd (not_in_nil x c)
Contains-filter_map {X} {Y} h (z ∷ zs) x y c d = by_cases (λ i. Contains-filter_map h zs x y i d) (Contains-cons_cases z zs x c)
  where
    by_cases : (Contains zs x → Contains (filter_map h zs) y) → (z ≡ x) ⊎ Contains zs x → Contains (cons_option (h z) (filter_map h zs)) y
    by_cases step (inl e) = first_given (h z) (filter_map h zs) y (ap h e ∙ d)
    by_cases step (inr i) = later_given (h z) (filter_map h zs) y (step i)

Contains-placed : {X : Type 0} (xs : List X) (x : X) (i : ℕ) → slice_get xs i ≡ Some x → Contains xs x
Contains-placed [] x i h = cc
Contains-placed (y ∷ ys) x zero h = let there : Some y ≡ Some x = h in let e : y ≡ x = cc in subst (Contains (y ∷ ys)) e (Contains-here y ys)
Contains-placed (y ∷ ys) x (suc i) h = Contains-there y ys x (Contains-placed ys x i h)

Contains-range : (a n i : ℕ) → i < n → Contains (range_with_len a n) (a + i)
Contains-range a zero i h = absurd (omega (arith, h))
Contains-range a (suc n) zero h = let e : a ≡ a + 0 = omega arith in subst (Contains (range_with_len a (suc n))) e (Contains-here a (range_with_len (a + 1) n))
Contains-range a (suc n) (suc i) h =
    let less : i < n = omega (arith, h) in
    let e : a + 1 + i ≡ a + suc i = omega arith in
    Contains-there a (range_with_len (a + 1) n) (a + suc i) (subst (Contains (range_with_len (a + 1) n)) e (Contains-range (a + 1) n i less))

Contains-enumerated : {X : Type 0} (a : ℕ) (xs : List X) (x : X) (i : ℕ) → slice_get xs i ≡ Some x → Contains (enumerate_from a xs) (a + i, x)
Contains-enumerated a [] x i h = cc
Contains-enumerated {X} a (y ∷ ys) x zero h =
    let there : Some y ≡ Some x = h in
    let e : y ≡ x = cc in
    let n : a ≡ a + 0 = omega arith in
    subst (Contains (enumerate_from a (y ∷ ys))) (λ j. (n j, e j)) (Contains-here (a, y) (enumerate_from (a + 1) ys))
Contains-enumerated {X} a (y ∷ ys) x (suc i) h =
    let n : a + 1 + i ≡ a + suc i = omega arith in
    Contains-there (a, y) (enumerate_from (a + 1) ys) (a + suc i, x)
    (subst (λ (m : ℕ). Contains (enumerate_from (a + 1) ys) (m, x)) n (Contains-enumerated (a + 1) ys x i h))

-- ---- edges in the lists

-- the item at a place that is counted from 1
pub item_least : {X : Type 0} (n : ℕ) (xs : List X) (x : X) → item_at n xs ≡ Some x → 1 ≤ n
item_least zero xs x h = cc
item_least (suc n) xs x h = omega arith

pub item_there : {X : Type 0} (n : ℕ) (xs : List X) (x : X) → item_at n xs ≡ Some x → slice_get xs (n - 1) ≡ Some x
item_there n xs x h = sym (item_at-place n (n - 1) xs (item_least n xs x h) refl) ∙ h

module _ (ds : List Declaration) where
  -- no edge of the list is broken
  pub unbroken : (es : List Edge) → first_broken ds es ≡ Ok (tt {0}) → (e : Edge) → Contains es e → is_broken ds e ≡ false
  unbroken [] h e c = absurd (not_in_nil e c)
  unbroken (x ∷ xs) h e c =
      by_bool (is_broken ds x)
      (λ t. let no : Err x ≡ Ok (tt {0}) = rw t at h in cc)
      (λ f. let later : first_broken ds xs ≡ Ok (tt {0}) = rw f at h in by_cases f (unbroken xs later e) (Contains-cons_cases x xs e c))
    where
      by_cases : is_broken ds x ≡ false → (Contains xs e → is_broken ds e ≡ false) → (x ≡ e) ⊎ Contains xs e → is_broken ds e ≡ false
      by_cases f step (inl s) = subst (λ (y : Edge). is_broken ds y ≡ false) s f
      by_cases f step (inr i) = step i

  -- the edge from a place of a rule that the relation had
  pub edge_of_place : (reads : Place → Option RelationName) (reader m : RelNo) (y : Relation) (b : Bool) (place : Place) (p : RelationName)
      → IsPlaced (history_numbered reader ds) y → Contains (places false y.expression) (b, place) → reads place ≡ Some p
      → number_of p.namespace p.relation ds ≡ Some m
      → Contains (relation_edges ds reads reader) (record { reader = reader; premise = m; strict = b })
  edge_of_place reads reader m y b place p had c read found =
      let x : Edge = record { reader = reader; premise = m; strict = b } in
      let there : edge_at ds reader reads (b, place) ≡ Some x = rw (read, found) refl in
      Contains-flat_map (λ (r : Relation). edges_in ds reader reads r.expression) (history_numbered reader ds) y x
      (Contains-placed (history_numbered reader ds) y had.place had.there)
      (Contains-filter_map (edge_at ds reader reads) (places false y.expression) (b, place) x c there)

  module _ (reader : RelNo) (q : List ℕ) (x : Relation)
      (named : namespace_numbered reader.namespace ds ≡ Some q) (is : relation_numbered reader ds ≡ Some x) where
    pub edge_of_namespace : (reads : Place → Option RelationName) (e : Edge) → Contains (relation_edges ds reads reader) e
        → Contains (namespace_edges ds reads reader.namespace) e
    edge_of_namespace reads e c = by (relations_of q ds) refl (rw named at is)
      where
        by : (o : Option (List Relation)) → relations_of q ds ≡ o → option_and_then (item_at reader.relation) o ≡ Some x
            → Contains (namespace_edges ds reads reader.namespace) e
        by None n f = cc
        by (Some rs) n f =
            let within = slice_get_within rs (reader.relation - 1) x (item_there reader.relation rs x f) in
            let least = item_least reader.relation rs x f in
            let all : relations_in ds reader.namespace ≡ rs = rw (named, n) refl in
            let place : 1 + (reader.relation - 1) ≡ reader.relation = omega (arith, least) in
            Contains-flat_map (λ (r : ℕ). relation_edges ds reads (record { namespace = reader.namespace; relation = r }))
            (range_with_len 1 (length (relations_in ds reader.namespace))) reader.relation e
            (rw all (subst (Contains (range_with_len 1 (length rs))) place (Contains-range 1 (length rs) (reader.relation - 1) within))) c

  pub edge_of_rules : (n : ℕ) (q : List ℕ) (e : Edge) → namespace_numbered n ds ≡ Some q
      → Contains (namespace_edges ds (read_by_rule q) n) e → Contains (rule_edges ds) e
  edge_of_rules n q e named c =
      let least = item_least n (namespace_names ds) q named in
      let place : 1 + (n - 1) ≡ n = omega (arith, least) in
      Contains-flat_map (λ (p : ℕ × List ℕ). namespace_edges ds (read_by_rule p.1) p.0) (enumerate_from 1 (namespace_names ds)) (n, q) e
      (subst (λ (m : ℕ). Contains (enumerate_from 1 (namespace_names ds)) (m, q)) place
      (Contains-enumerated 1 (namespace_names ds) q (n - 1) (item_there n (namespace_names ds) q named))) c
