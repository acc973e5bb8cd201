-- After a declaration of a namespace, the rules that it gives decide alone: those before it read what they read before.
use Rattle.std.proofs.Common.{◌≡◌, ℕ, zero, suc, ◌+◌, ◌-◌, ◌≤◌, Bool, true, false, ◌==◌, cond, List, [], ◌∷◌, ◌++◌, length, slice_get, position, Option, None, Some, option_map, option_and_then, unwrap_or, Ok, Err, refl, sym, ◌∙◌, ap, subst, length-append, arith}
use Rattle.std.specs.Prelude.{Contains}
use Rattle.std.specs.List.{AllByRecursion, flat_map, filter_map, cons_option, range_with_len, list_any, list_all}
use Rattle.std.specs.Str.{bytes_eq}
use Rattle.std.specs.Cmp.{unsigned_Decides}
use Rattle.std.proofs.lemmas.List.Elements.{filter_map-append}
use Rattle.std.proofs.lemmas.List.{append-nil}
use Rattle.std.proofs.lemmas.Grind.{flat_map-append}
use Rattle.std.proofs.lemmas.Option.{slice_get-map}
use Rattle.namespaces.specs.declared.number.RelNo.{RelNo}
use Rattle.rewrites.specs.Expression.{Expression, this, computed, tuple_to, union, inter, minus, Expressions, no_child, child, own_relations, own_relations_all}
use Rattle.namespaces.specs.Declaration.{Relation, Declaration}
use Rattle.namespaces.specs.Lookup.{declared_in, history, with_name, relation_named, relation_names, relations_of, relation_of, namespace_names, namespace_numbered, relation_numbered, history_numbered, number_of, place_of, item_at}
use Rattle.namespaces.specs.Adding.{has_repeats, reads_declared}
use Rattle.namespaces.specs.Changing.{keeps_names, keeps_strata, change_count}
use Rattle.namespaces.specs.WellFormed.{Continues, AreContinued, IsFit, IsWellFormed}
use Rattle.namespaces.proofs.Declared.{IsPlaced, stays_declared, numbered, history_of_number}
use Rattle.namespaces.proofs.Growth.{change_count-push}
use Rattle.namespaces.proofs.Kept.{named_by_place}
use Rattle.rewrites.proofs.Names.{by_bool, clash, same_name, one_name, and_true}
use Rattle.namespaces.proofs.Numbering.{item_at-place}
use Rattle.namespaces.proofs.Times.{IsKeptIn, from_one, newest_keeps}
use Rattle.strata.specs.declared.edge.Edge.{Edge}
use Rattle.strata.specs.Edges.{RelationName, Place, places, all_places, at_computed, edge_at, edges_in, relation_edges, relations_in, namespace_edges, last_relation_edges, last_edges, rule_edges, read_by_rule, stratum_numbered, is_broken, first_broken}
use Rattle.strata.proofs.Lists.{Contains-here, Contains-there}
use Rattle.strata.proofs.KeptEdges.{flat_same}
use Rattle.names.proofs.NamesLemmas.{position_cons}
use Rattle.strata.proofs.Newest.{position_item, position_none, one_place, both_ok, names_more, name_kept, distinct_after, newest_decides}
use Rattle.strata.proofs.Unbroken.{unbroken, edge_of_namespace, edge_of_rules, item_least, item_there}
use Rattle.strata.proofs.Walks.{both, edges_joined, places_joined}

-- ---- places of names

position_kept : (q : List ℕ) (xs ys : List (List ℕ)) (i : ℕ) → position (bytes_eq q) xs ≡ Some i → position (bytes_eq q) (xs ++ ys) ≡ Some i
position_kept q [] ys i h = cc
position_kept q (x ∷ xs) ys i h = by_bool (bytes_eq q x)
    (λ t. rw (position_cons (bytes_eq q) x (xs ++ ys), t) (rw (position_cons (bytes_eq q) x xs, t) at h))
    (λ f. rw (position_cons (bytes_eq q) x (xs ++ ys), f) (later (position_kept q xs ys) (position (bytes_eq q) xs) refl (rw (position_cons (bytes_eq q) x xs, f) at h)))
  where
    later : ((k : ℕ) → position (bytes_eq q) xs ≡ Some k → position (bytes_eq q) (xs ++ ys) ≡ Some k) → (o : Option ℕ) → position (bytes_eq q) xs ≡ o → option_map suc o ≡ Some i
        → option_map suc (position (bytes_eq q) (xs ++ ys)) ≡ Some i
    later further None is e = cc
    later further (Some k) is e = rw (further k is) e

-- a name that stands once is found where it stands
placed_once : (q : List ℕ) (ns : List (List ℕ)) (i : ℕ) → has_repeats ns ≡ false → slice_get ns i ≡ Some q → position (bytes_eq q) ns ≡ Some i
placed_once q ns i once at = by (position (bytes_eq q) ns) refl
  where
    by : (o : Option ℕ) → position (bytes_eq q) ns ≡ o → o ≡ Some i
    by None is = clash (bytes_eq q q) (same_name q) (position_none (bytes_eq q) ns is i q at)
    by (Some k) is =
        let w = position_item (bytes_eq q) ns k is in
        ap Some (one_place q ns once k i (w.1 ∙ ap Some (sym (one_name q w.0 w.2))) at)

-- ---- relations that are kept

-- the names of the kept relations come first
pub names_kept : (os ns : List Relation) → keeps_names os ns ≡ true → (rest : List (List ℕ)) × (relation_names ns ≡ relation_names os ++ rest)
names_kept [] ns h = (relation_names ns, refl)
names_kept (r ∷ rs) [] h = cc
names_kept (r ∷ rs) (s ∷ ss) h =
    let parts = and_true (bytes_eq r.name s.name) (keeps_names rs ss) h in
    let further = names_kept rs ss parts.1 in
    (further.0, λ i. sym (one_name r.name s.name parts.0) i ∷ further.1 i)

-- a relation of the old list has its stratum in the new one, at its place
stratum_at : (os ns : List Relation) (i : ℕ) (x : Relation) → keeps_names os ns ≡ true → keeps_strata os ns ≡ true → slice_get os i ≡ Some x
    → (z : Relation) × (slice_get ns i ≡ Some z) × (z.stratum ≡ x.stratum)
stratum_at [] ns i x n s at = cc
stratum_at (o ∷ os) [] i x n s at = cc
stratum_at (o ∷ os) (m ∷ ms) zero x n s at =
    let same : o ≡ x = (let e : Some o ≡ Some x = at in cc) in
    let one : o.stratum ≡ m.stratum = (unsigned_Decides o.stratum m.stratum).0 (and_true (o.stratum == m.stratum) (keeps_strata os ms) s).0 in
    (m, refl, sym one ∙ ap (λ (r : Relation). r.stratum) same)
stratum_at (o ∷ os) (m ∷ ms) (suc i) x n s at =
    stratum_at os ms i x (and_true (bytes_eq o.name m.name) (keeps_names os ms) n).1 (and_true (o.stratum == m.stratum) (keeps_strata os ms) s).1 at

-- a relation that is declared stays so
any_kept : (p : List ℕ) (os ns : List Relation) → keeps_names os ns ≡ true → list_any (λ (e : Relation). bytes_eq p e.name) os ≡ true → list_any (λ (e : Relation). bytes_eq p e.name) ns ≡ true
any_kept p [] ns n h = cc
any_kept p (o ∷ os) [] n h = cc
any_kept p (o ∷ os) (m ∷ ms) n h =
    let parts = and_true (bytes_eq o.name m.name) (keeps_names os ms) n in
    rw (← one_name o.name m.name parts.0)
    (by_bool (bytes_eq p o.name) (λ t. rw t refl) (λ f. rw f (any_kept p os ms parts.1 (rw f at h))))

all_weaker : {X : Type 0} (P Q : X → Bool) (xs : List X) → ((x : X) → P x ≡ true → Q x ≡ true) → list_all P xs ≡ true → list_all Q xs ≡ true
all_weaker P Q [] h all = refl
all_weaker P Q (x ∷ xs) h all =
    let parts = and_true (P x) (list_all P xs) all in
    rw (h x parts.0) (all_weaker P Q xs h parts.1)

all_split : {X : Type 0} (P : X → Bool) (xs ys : List X) → list_all P (xs ++ ys) ≡ true → (list_all P xs ≡ true) × (list_all P ys ≡ true)
all_split P [] ys h = (refl, h)
all_split P (x ∷ xs) ys h =
    let parts = and_true (P x) (list_all P (xs ++ ys)) h in
    let further = all_split P xs ys parts.1 in
    (rw parts.0 further.0, further.1)

all_named : (P : Relation → Bool) (r : List ℕ) (rs : List Relation) (y : Relation) → list_all P rs ≡ true → relation_named r rs ≡ Some y → P y ≡ true
all_named P r [] y all is = cc
all_named P r (x ∷ xs) y all is =
    let parts = and_true (P x) (list_all P xs) all in
    by_bool (bytes_eq r x.name)
    (λ t. let e : Some x ≡ Some y = rw t at is in let same : x ≡ y = cc in subst (λ (z : Relation). P z ≡ true) same parts.0)
    (λ f. all_named P r xs y parts.1 (rw f at is))

found_among : (p : List ℕ) (rs : List Relation) → list_any (λ (e : Relation). bytes_eq p e.name) rs ≡ true → (x : Relation) × (relation_named p rs ≡ Some x)
found_among p [] h = cc
found_among p (x ∷ xs) h = by_bool (bytes_eq p x.name) (λ t. (x, rw t refl)) (λ f. let w = found_among p xs (rw f at h) in (w.0, rw f w.1))

-- each rule that a relation had reads relations that the namespace still has
reads_kept : (q r : List ℕ) (os : List Relation) (cs : List Declaration) → AllByRecursion IsFit cs → AllByRecursion (λ e. bytes_eq q e.name ≡ true → IsKeptIn os e) cs
    → AllByRecursion (λ (y : Relation). reads_declared os y ≡ true) (history q r cs)
reads_kept q r os [] fit kept = tt
reads_kept q r os (c ∷ cs) fit kept = step (declared_in q r c) refl (reads_kept q r os cs fit.1 kept.1)
  where
    step : (o : Option Relation) → declared_in q r c ≡ o → AllByRecursion (λ (y : Relation). reads_declared os y ≡ true) (history q r cs)
        → AllByRecursion (λ (y : Relation). reads_declared os y ≡ true) (cons_option o (history q r cs))
    step None is later = later
    step (Some y) is later = (
      by_bool (bytes_eq q c.name)
          (λ t.
          all_weaker (λ p. list_any (λ (e : Relation). bytes_eq p e.name) c.relations) (λ p. list_any (λ (e : Relation). bytes_eq p e.name) os) (own_relations y.expression)
          (λ p. any_kept p c.relations os (kept.0 t).names)
          (all_named (reads_declared c.relations) r c.relations y fit.0.reads (rw t at is)))
          (λ f. let none : None ≡ Some y = rw f at is in cc),
      later,
    )

-- ---- a list of declarations without its last

all_front : (P : Declaration → Type 0) (ds : List Declaration) (d : Declaration) → AllByRecursion P (ds ++ d ∷ []) → AllByRecursion P ds
all_front P [] d all = tt
all_front P (c ∷ cs) d all = (all.0, all_front P cs d all.1)

all_last : (P : Declaration → Type 0) (ds : List Declaration) (d : Declaration) → AllByRecursion P (ds ++ d ∷ []) → P d
all_last P [] d all = all.0
all_last P (c ∷ cs) d all = all_last P cs d all.1

continued_front : (ds : List Declaration) (d : Declaration) → AreContinued (ds ++ d ∷ []) → AreContinued ds
continued_front [] d all = tt
continued_front (c ∷ cs) d all = (all_front (λ e. c.name ≡ e.name → Continues c e) cs d all.0, continued_front cs d all.1)

length-with_name : (names : List (List ℕ)) (q : List ℕ) → length names ≤ length (with_name names q)
length-with_name names q = by_bool (list_any (bytes_eq q) names) (λ t. rw t (omega arith)) (λ f. rw (f, length-append names (q ∷ [])) (omega arith))

front_well_formed : (ds : List Declaration) (d : Declaration) → IsWellFormed (ds ++ d ∷ []) → IsWellFormed ds
front_well_formed ds d w =
    let fewer = length-with_name (namespace_names ds) d.name in
    let names : length (with_name (namespace_names ds) d.name) ≤ 256 = rw (names_more ds d) at w.namespaces in
    let count : change_count ds + cond d.is_change 1 0 ≤ 4096 = rw (change_count-push ds d) at w.changes in
    record {
      namespaces = omega arith;
      distinct = distinct_after [] ds refl;
      fit = all_front IsFit ds d w.fit;
      changes = omega arith;
      continued = continued_front ds d w.continued;
    }

pub relations_last : (ds : List Declaration) (d : Declaration) → relations_of d.name (ds ++ d ∷ []) ≡ Some d.relations
relations_last [] d = rw (same_name d.name) refl
relations_last (c ∷ cs) d = rw (relations_last cs d) refl

pub all_unbroken : (ds : List Declaration) (es : List Edge) → ((e : Edge) → Contains es e → is_broken ds e ≡ false) → first_broken ds es ≡ Ok (tt {0})
all_unbroken ds [] h = refl
all_unbroken ds (e ∷ es) h = rw (h e (Contains-here e es)) (all_unbroken ds es (λ x c. h x (Contains-there e es x c)))

-- ---- the edges of the rules before, after one declaration more

module _ (ds : List Declaration) (d : Declaration) (w : IsWellFormed (ds ++ d ∷ [])) where
  abbrev more : List Declaration
  more = ds ++ d ∷ []

  abbrev q : List ℕ
  q = d.name

  abbrev of_rule : Place → Option RelationName
  of_rule = read_by_rule d.name

  pub was_well_formed : IsWellFormed ds
  was_well_formed = front_well_formed ds d w

  pub place_kept : (i : ℕ) → position (bytes_eq q) (namespace_names ds) ≡ Some i → position (bytes_eq q) (namespace_names more) ≡ Some i
  place_kept i h = rw (names_more ds d) (by_bool (list_any (bytes_eq q) (namespace_names ds)) (λ t. rw t h) (λ f. rw f (position_kept q (namespace_names ds) (q ∷ []) i h)))

  module _ (os : List Relation) (found : relations_of q ds ≡ Some os) where
    pub kept : IsKeptIn d.relations (record d { relations = os })
    kept =
        let one = from_one (λ e. bytes_eq q e.name ≡ true → IsKeptIn d.relations e) q os ds
        (all_front (λ e. bytes_eq q e.name ≡ true → IsKeptIn d.relations e) ds d (newest_keeps q d.relations more w.continued (relations_last ds d))) found in
        let is = one.has one.named in
        record { names = rw (← one.shown) is.names; strata = rw (← one.shown) is.strata }

    pub number_kept : (p : List ℕ) (m : RelNo) → number_of q p ds ≡ Some m → number_of q p more ≡ Some m
    number_kept p m h = by (position (bytes_eq q) (namespace_names ds)) (position (bytes_eq p) (relation_names os)) refl refl (rw found at h)
      where
        by : (o u : Option ℕ) → position (bytes_eq q) (namespace_names ds) ≡ o → position (bytes_eq p) (relation_names os) ≡ u
            → option_and_then (λ n. option_map (λ r. record { namespace = n; relation = r }) (option_map (λ i. i + 1) u)) (option_map (λ i. i + 1) o) ≡ Some m
            → number_of q p more ≡ Some m
        by None u is at e = cc
        by (Some i) None is at e = cc
        by (Some i) (Some j) is at e =
            let names = names_kept os d.relations kept.names in
            rw (place_kept i is, relations_last ds d, names.1, position_kept p (relation_names os) names.0 j at) e

    pub stratum_kept : (m : RelNo) (x : Relation) → namespace_numbered m.namespace ds ≡ Some q → relation_numbered m ds ≡ Some x → stratum_numbered more m ≡ stratum_numbered ds m
    stratum_kept m x named is =
        let item : item_at m.relation os ≡ Some x = rw (named, found) at is in
        let z = stratum_at os d.relations (m.relation - 1) x kept.names kept.strata (item_there m.relation os x item) in
        let there : item_at m.relation d.relations ≡ Some z.0 = item_at-place m.relation (m.relation - 1) d.relations (item_least m.relation os x item) refl ∙ z.1 in
        let now : relation_numbered m more ≡ Some z.0 = rw (name_kept ds d m.namespace q named, relations_last ds d) there in
        rw (now, is) (ap Some z.2)

    module _ (reader : RelNo) (same_reader : stratum_numbered more reader ≡ stratum_numbered ds reader) where
      abbrev declared_there : List ℕ → Bool
      declared_there p = list_any (λ (e : Relation). bytes_eq p e.name) os

      leaf_kept : (b : Bool) (p : List ℕ) → declared_there p ≡ true
          → first_broken ds (filter_map (edge_at ds reader of_rule) ((b, at_computed p) ∷ [])) ≡ Ok (tt {0}) → first_broken more (filter_map (edge_at more reader of_rule) ((b, at_computed p) ∷ [])) ≡ Ok (tt {0})
      leaf_kept b p declared h =
          let x = found_among p os declared in
          let n = numbered ds q p x.0 (rw found x.1) in
          let e : Edge = record { reader = reader; premise = n.number; strict = b } in
          let same : is_broken more e ≡ is_broken ds e = rw (same_reader, stratum_kept n.number x.0 n.namespace n.relation) refl in
          by_bool (is_broken ds e)
          (λ t. let no : Err e ≡ Ok (tt {0}) = rw (n.is, t) at h in cc)
          (λ f. rw (number_kept p n.number n.is, same, f) refl)

      mutual
        expression_kept : (b : Bool) (e : Expression) → list_all declared_there (own_relations e) ≡ true
            → first_broken ds (filter_map (edge_at ds reader of_rule) (places b e)) ≡ Ok (tt {0}) → first_broken more (filter_map (edge_at more reader of_rule) (places b e)) ≡ Ok (tt {0})
        expression_kept b this all h = refl
        expression_kept b (computed p) all h = leaf_kept b p (and_true (declared_there p) true all).0 h
        expression_kept b (tuple_to t c) all h = refl
        expression_kept b (union es) all h = expressions_kept b es all h
        expression_kept b (inter es) all h = expressions_kept b es all h
        expression_kept b (minus x y) all h =
            let each = all_split declared_there (own_relations x) (own_relations y) all in
            let parts = both_ok _ _ (sym (places_joined ds reader of_rule (places b x) (places true y)) ∙ h) in
            places_joined more reader of_rule (places b x) (places true y) ∙ (λ i. both (expression_kept b x each.0 parts.0 i) (expression_kept true y each.1 parts.1 i))

        expressions_kept : (b : Bool) (es : Expressions) → list_all declared_there (own_relations_all es) ≡ true
            → first_broken ds (filter_map (edge_at ds reader of_rule) (all_places b es)) ≡ Ok (tt {0}) → first_broken more (filter_map (edge_at more reader of_rule) (all_places b es)) ≡ Ok (tt {0})
        expressions_kept b no_child all h = refl
        expressions_kept b (child e es) all h =
            let each = all_split declared_there (own_relations e) (own_relations_all es) all in
            let parts = both_ok _ _ (sym (places_joined ds reader of_rule (places b e) (all_places b es)) ∙ h) in
            places_joined more reader of_rule (places b e) (all_places b es) ∙ (λ i. both (expression_kept b e each.0 parts.0 i) (expressions_kept b es each.1 parts.1 i))

      rules_kept : (ys : List Relation) → AllByRecursion (λ (y : Relation). reads_declared os y ≡ true) ys
          → first_broken ds (flat_map (λ (y : Relation). edges_in ds reader of_rule y.expression) ys) ≡ Ok (tt {0}) → first_broken more (flat_map (λ (y : Relation). edges_in more reader of_rule y.expression) ys) ≡ Ok (tt {0})
      rules_kept [] all h = refl
      rules_kept (y ∷ ys) all h =
          let parts = both_ok _ _ (sym (edges_joined ds (edges_in ds reader of_rule y.expression) (flat_map (λ (x : Relation). edges_in ds reader of_rule x.expression) ys)) ∙ h) in
          edges_joined more (edges_in more reader of_rule y.expression) (flat_map (λ (x : Relation). edges_in more reader of_rule x.expression) ys)
          ∙ (λ i. both (expression_kept false y.expression all.0 parts.0 i) (rules_kept ys all.1 parts.1 i))

  abbrev pub rules_edges : List Declaration → (Place → Option RelationName) → RelNo → List Relation → List Edge
  rules_edges es reads m ys = flat_map (λ (y : Relation). edges_in es m reads y.expression) ys

  -- with what is read so, rules that had no broken edge have none
  module _ (reads : Place → Option RelationName)
      (stays : (os : List Relation) → relations_of q ds ≡ Some os → (m : RelNo) → stratum_numbered more m ≡ stratum_numbered ds m → (r : List ℕ)
      → first_broken ds (rules_edges ds reads m (history q r ds)) ≡ Ok (tt {0}) → first_broken more (rules_edges more reads m (history q r ds)) ≡ Ok (tt {0})) where
    -- the relation that has this number now had no broken edge before
    abbrev pub WereUnbroken : RelNo → Type 0
    WereUnbroken reader = (name : List ℕ) (m : RelNo) (x : Relation) → number_of q name more ≡ Some reader → number_of q name ds ≡ Some m
        → namespace_numbered m.namespace ds ≡ Some q → relation_numbered m ds ≡ Some x → first_broken ds (relation_edges ds reads m) ≡ Ok (tt {0})

    -- no rule that a relation had before has a broken edge
    before_unbroken : (reader : RelNo) (r : List ℕ) → WereUnbroken reader → number_of q r more ≡ Some reader → (y : Relation) → IsPlaced (history q r ds) y
        → first_broken more (rules_edges more reads reader (history q r ds)) ≡ Ok (tt {0})
    before_unbroken reader r were is y placed =
        let x = stays_declared ds q r y was_well_formed placed in
        by (relations_of q ds) refl x.0 x.1
      where
        by : (o : Option (List Relation)) → relations_of q ds ≡ o → (x : Relation) → option_and_then (relation_named r) o ≡ Some x
            → first_broken more (rules_edges more reads reader (history q r ds)) ≡ Ok (tt {0})
        by None found x at = cc
        by (Some os) found x at =
            let of : relation_of q r ds ≡ Some x = rw found at in
            let n = numbered ds q r x of in
            let two : Some n.number ≡ Some reader = sym (number_kept os found r n.number n.is) ∙ is in
            let one : n.number ≡ reader = cc in
            let old : first_broken ds (rules_edges ds reads n.number (history q r ds)) ≡ Ok (tt {0}) =
            rw (history_of_number ds q r x n.number of n.namespace n.relation) at (were r n.number x is n.is n.namespace n.relation) in
            subst (λ (m : RelNo). first_broken more (rules_edges more reads m (history q r ds)) ≡ Ok (tt {0})) one
            (stays os found n.number (stratum_kept os found n.number x n.namespace n.relation) r old)

    module _ (n : ℕ) (place : place_of q (namespace_names more) ≡ Some n) where
      named : namespace_numbered n more ≡ Some q
      named = by (position (bytes_eq q) (namespace_names more)) refl place
        where
          by : (o : Option ℕ) → position (bytes_eq q) (namespace_names more) ≡ o → option_map (λ i. i + 1) o ≡ Some n → namespace_numbered n more ≡ Some q
          by None is e = cc
          by (Some i) is e =
              let z = position_item (bytes_eq q) (namespace_names more) i is in
              let number : i + 1 ≡ n = cc in
              let least : 1 ≤ n = omega (arith, number) in
              let before : n - 1 ≡ i = omega (arith, number) in
              item_at-place n i (namespace_names more) least before ∙ z.1 ∙ ap Some (sym (one_name q z.0 z.2))

      module _ (r : ℕ) where
        abbrev reader : RelNo
        reader = record { namespace = n; relation = r }

        abbrev in_rule : Relation → List Edge
        in_rule x = edges_in more reader reads x.expression

        -- of unbroken rules and one more, that one decides
        one_decides : (x : Relation) (hs : List Relation) → first_broken more (flat_map in_rule hs) ≡ Ok (tt {0}) → first_broken more (flat_map in_rule (hs ++ x ∷ [])) ≡ first_broken more (in_rule x)
        one_decides x hs h =
            rw (flat_map-append in_rule hs (x ∷ []), append-nil (in_rule x), edges_joined more (flat_map in_rule hs) (in_rule x), h) refl

        number_now : (x : Relation) → position (bytes_eq x.name) (relation_names d.relations) ≡ Some (r - 1) → 1 ≤ r → number_of q x.name more ≡ Some reader
        number_now x at least = by (position (bytes_eq q) (namespace_names more)) refl place
          where
            by : (o : Option ℕ) → position (bytes_eq q) (namespace_names more) ≡ o → option_map (λ i. i + 1) o ≡ Some n → number_of q x.name more ≡ Some reader
            by None is e = cc
            by (Some i) is e =
                let number : i + 1 ≡ n = cc in
                let relation : r - 1 + 1 ≡ r = omega (arith, least) in
                rw (is, relations_last ds d, at) (λ l. Some (record { namespace = number l; relation = relation l }))

        name_at : (rs : List Relation) (i : ℕ) (x : Relation) → slice_get rs i ≡ Some x → slice_get (relation_names rs) i ≡ Some x.name
        name_at rs i x h = rw (slice_get-map (λ (y : Relation). y.name) rs i, h) refl

        pub relation_same : WereUnbroken reader → first_broken more (relation_edges more reads reader) ≡ first_broken more (last_relation_edges more reads reader)
        relation_same were = by (relation_numbered reader more) refl
          where
            old_ok : (x : Relation) (hs : List Relation) → history q x.name ds ≡ hs → number_of q x.name more ≡ Some reader → first_broken more (flat_map in_rule (history q x.name ds)) ≡ Ok (tt {0})
            old_ok x [] is number = rw is refl
            old_ok x (y ∷ ys) is number = before_unbroken reader x.name were number y (record { place = 0; there = rw is refl })

            by : (o : Option Relation) → relation_numbered reader more ≡ o → first_broken more (relation_edges more reads reader) ≡ first_broken more (unwrap_or (option_map in_rule o) [])
            by None is =
                let item : item_at r d.relations ≡ None = rw (named, relations_last ds d) at is in
                rw (named, relations_last ds d, item) refl
            by (Some x) is =
                let item : item_at r d.relations ≡ Some x = rw (named, relations_last ds d) at is in
                let least = item_least r d.relations x item in
                let there = item_there r d.relations x item in
                let once : has_repeats (relation_names d.relations) ≡ false = (all_last IsFit ds d w.fit).distinct in
                let here : declared_in q x.name d ≡ Some x = rw (same_name q) (named_by_place x d.relations (r - 1) once there) in
                let last : history q x.name more ≡ history q x.name ds ++ x ∷ [] = filter_map-append (declared_in q x.name) ds (d ∷ []) ∙ rw here refl in
                let all : history_numbered reader more ≡ history q x.name ds ++ x ∷ [] = rw (named, relations_last ds d, item) last in
                rw all (one_decides x (history q x.name ds)
                (old_ok x (history q x.name ds) refl (number_now x (placed_once x.name (relation_names d.relations) (r - 1) once (name_at d.relations (r - 1) x there)) least)))

      pub namespace_same : ((reader : RelNo) → WereUnbroken reader) → first_broken more (namespace_edges more reads n) ≡ first_broken more (last_edges more reads n)
      namespace_same were =
          flat_same more more (λ r. relation_edges more reads (record { namespace = n; relation = r })) (λ r. last_relation_edges more reads (record { namespace = n; relation = r }))
          (λ r. relation_same r (were (record { namespace = n; relation = r }))) (range_with_len 1 (length (relations_in more n)))

  -- what the rules of the namespace read by themselves
  module _ (none : first_broken ds (rule_edges ds) ≡ Ok (tt {0})) (n : ℕ) (place : place_of q (namespace_names more) ≡ Some n) where
    rules_same : first_broken more (namespace_edges more of_rule n) ≡ first_broken more (last_edges more of_rule n)
    rules_same =
        namespace_same of_rule
        (λ os found m same r h.
        rules_kept os found m same (history q r ds) (reads_kept q r os ds was_well_formed.fit (newest_keeps q os ds was_well_formed.continued found)) h)
        n place
        (λ reader name m x now was named is.
        all_unbroken ds (relation_edges ds of_rule m)
        (λ e c. unbroken ds (rule_edges ds) none e (edge_of_rules ds m.namespace q e named (edge_of_namespace ds m q x named is of_rule e c))))

-- after a declaration of a namespace the rules that it gives decide
pub last_decides : (es ds : List Declaration) (d : Declaration) (q : List ℕ) (n : ℕ) → IsWellFormed es → place_of q (namespace_names es) ≡ Some n → es ≡ ds ++ d ∷ [] → d.name ≡ q
    → first_broken ds (rule_edges ds) ≡ Ok (tt {0}) → first_broken es (last_edges es (read_by_rule q) n) ≡ first_broken es (rule_edges es)
last_decides es ds d q n w place are name none =
    subst (λ (cs : List Declaration). IsWellFormed cs → place_of q (namespace_names cs) ≡ Some n → first_broken cs (last_edges cs (read_by_rule q) n) ≡ first_broken cs (rule_edges cs)) (sym are)
    (subst (λ (p : List ℕ). IsWellFormed (ds ++ d ∷ []) → place_of p (namespace_names (ds ++ d ∷ [])) ≡ Some n → first_broken (ds ++ d ∷ []) (last_edges (ds ++ d ∷ []) (read_by_rule p) n) ≡ first_broken (ds ++ d ∷ []) (rule_edges (ds ++ d ∷ []))) name
    (λ v h. sym (rules_same ds d v none n h) ∙ rw h at (newest_decides (ds ++ d ∷ []) ds d d.name refl refl none))) w place
