-- After a declaration of a namespace: which edges of a tuple decide.
use Rattle.std.proofs.Common.{◌≡◌, ℕ, ◌+◌, ◌-◌, ◌≤◌, true, false, List, [], ◌∷◌, ◌++◌, length, slice_get, position, Option, None, Some, option_map, option_and_then, unwrap_or, Ok, refl, sym, ◌∙◌, ap, subst, length-append, append-nil, arith}
use Rattle.std.specs.Str.{bytes_eq}
use Rattle.std.proofs.lemmas.List.{length-map}
use Rattle.std.proofs.lemmas.Option.{slice_get-map}
use Rattle.tuple_text.specs.Sets.{SetValue}
use Rattle.namespaces.specs.declared.number.RelNo.{RelNo}
use Rattle.namespaces.specs.Declaration.{Relation, Declaration}
use Rattle.namespaces.specs.Lookup.{history, relation_named, relation_names, relations_of, relation_count, namespace_names, namespace_numbered, relation_numbered, number_of, place_of, item_at}
use Rattle.namespaces.specs.WellFormed.{IsWellFormed}
use Rattle.namespaces.proofs.Declared.{numbered}
use Rattle.rewrites.proofs.Names.{by_bool, one_name}
use Rattle.namespaces.proofs.Numbering.{item_at-place}
use Rattle.strata.specs.Edges.{RelationName, Place, at_this, at_computed, at_tuple_to, read_in_userset, read_through, relation_edges, namespace_edges, last_relation_edges, last_edges, userset_edges, last_userset_edges, this_edges, tuple_to_edges, stratum_numbered, first_broken}
use Rattle.strata.proofs.KeptEdges.{IsKept, rules_same}
use Rattle.strata.proofs.LastDeclared as last
use Rattle.strata.proofs.LastDeclared.{names_kept, relations_last, all_unbroken}
use Rattle.names.proofs.NamesLemmas.{position_cons}
use Rattle.strata.proofs.Newest.{position_item, both_ok, place_same, number_same, stratum_same, premise_named, relation_same, namespace_same}
use Rattle.strata.proofs.Unbroken.{unbroken, edge_of_namespace, item_least, item_there}
use Rattle.strata.proofs.Walks.{both, edges_joined}

pub absent : (p : List ℕ) (os : List Relation) → relation_named p os ≡ None → position (bytes_eq p) (relation_names os) ≡ None
absent p [] h = refl
absent p (o ∷ os) h = by_bool (bytes_eq p o.name)
    (λ t. let no : Some o ≡ None = rw t at h in cc)
    (λ f. rw (position_cons (bytes_eq p) o.name (relation_names os), f, absent p os (rw f at h)) refl)

no_more : {X : Type 0} (xs ys : List X) → length (xs ++ ys) ≡ length xs → ys ≡ []
no_more xs [] h = refl
no_more xs (y ∷ ys) h = let n = length-append xs (y ∷ ys) in absurd (omega (arith, h, n))

nothing : {X : Type 0} (xs : List X) → length xs ≡ 0 → xs ≡ []
nothing [] h = refl
nothing (x ∷ xs) h = absurd (omega (arith, h))

-- a number, by its parts
number_parts : (es : List Declaration) (q p : List ℕ) (m : RelNo) → number_of q p es ≡ Some m
    → (os : List Relation) × (relations_of q es ≡ Some os) × (place_of q (namespace_names es) ≡ Some m.namespace) × (place_of p (relation_names os) ≡ Some m.relation)
number_parts es q p m h = by (place_of q (namespace_names es)) (relations_of q es) refl refl h
  where
    by_relation : (n : ℕ) (os : List Relation) → place_of q (namespace_names es) ≡ Some n → relations_of q es ≡ Some os → (u : Option ℕ) → place_of p (relation_names os) ≡ u
        → option_map (λ r. record { namespace = n; relation = r }) u ≡ Some m
        → (os : List Relation) × (relations_of q es ≡ Some os) × (place_of q (namespace_names es) ≡ Some m.namespace) × (place_of p (relation_names os) ≡ Some m.relation)
    by_relation n os is found None at g = cc
    by_relation n os is found (Some r) at g =
        let same : record { namespace = n; relation = r } ≡ m = (let s : Some (record { namespace = n; relation = r }) ≡ Some m = g in cc) in
        (os, found, is ∙ ap (λ (x : RelNo). Some x.namespace) same, at ∙ ap (λ (x : RelNo). Some x.relation) same)

    by : (o : Option ℕ) (rs : Option (List Relation)) → place_of q (namespace_names es) ≡ o → relations_of q es ≡ rs
        → option_and_then (λ n. option_map (λ r. record { namespace = n; relation = r }) (option_and_then (λ os. place_of p (relation_names os)) rs)) o ≡ Some m
        → (os : List Relation) × (relations_of q es ≡ Some os) × (place_of q (namespace_names es) ≡ Some m.namespace) × (place_of p (relation_names os) ≡ Some m.relation)
    by None rs is found g = cc
    by (Some n) None is found g = cc
    by (Some n) (Some os) is found g = by_relation n os is found (place_of p (relation_names os)) refl g

pub placed : (p : List ℕ) (names : List (List ℕ)) (n : ℕ) → place_of p names ≡ Some n → item_at n names ≡ Some p
placed p names n h = by (position (bytes_eq p) names) refl h
  where
    by : (o : Option ℕ) → position (bytes_eq p) names ≡ o → option_map (λ i. i + 1) o ≡ Some n → item_at n names ≡ Some p
    by None is g = cc
    by (Some i) is g =
        let w = position_item (bytes_eq p) names i is in
        let number : i + 1 ≡ n = cc in
        let least : 1 ≤ n = omega (arith, number) in
        let before : n - 1 ≡ i = omega (arith, number) in
        item_at-place n i names least before ∙ w.1 ∙ ap Some (sym (one_name p w.0 w.2))

-- a number stands for one relation
one_relation : (es : List Declaration) (q p r : List ℕ) (m : RelNo) → number_of q p es ≡ Some m → number_of q r es ≡ Some m → p ≡ r
one_relation es q p r m h g =
    let one = number_parts es q p m h in
    let two = number_parts es q r m g in
    let lists : Some one.0 ≡ Some two.0 = sym one.1 ∙ two.1 in
    let same : one.0 ≡ two.0 = cc in
    let names : Some p ≡ Some r = sym (placed p (relation_names one.0) m.relation one.3) ∙ rw same (placed r (relation_names two.0) m.relation two.3) in
    cc

-- the relation that a number stands for
its_relation : (es : List Declaration) (q p : List ℕ) (m : RelNo) → number_of q p es ≡ Some m → (x : Relation) × (namespace_numbered m.namespace es ≡ Some q) × (relation_numbered m es ≡ Some x)
its_relation es q p m h =
    let parts = number_parts es q p m h in
    let named : namespace_numbered m.namespace es ≡ Some q = placed q (namespace_names es) m.namespace parts.2 in
    let item : item_at m.relation (relation_names parts.0) ≡ Some p = placed p (relation_names parts.0) m.relation parts.3 in
    let least : 1 ≤ m.relation = item_least m.relation (relation_names parts.0) p item in
    let x = there parts.0 (m.relation - 1) (sym (slice_get-map (λ (r : Relation). r.name) parts.0 (m.relation - 1)) ∙ item_there m.relation (relation_names parts.0) p item) in
    (x.0, named, rw (named, parts.1) (item_at-place m.relation (m.relation - 1) parts.0 least refl ∙ x.1))
  where
    there : (os : List Relation) (i : ℕ) → option_map (λ (r : Relation). r.name) (slice_get os i) ≡ Some p → (x : Relation) × (slice_get os i ≡ Some x)
    there os i g = by (slice_get os i) refl g
      where
        by : (o : Option Relation) → slice_get os i ≡ o → option_map (λ (r : Relation). r.name) o ≡ Some p → (x : Relation) × (slice_get os i ≡ Some x)
        by None is e = cc
        by (Some x) is e = (x, is)

module _ (ds : List Declaration) (d : Declaration) (w : IsWellFormed (ds ++ d ∷ [])) where
  abbrev more : List Declaration
  more = ds ++ d ∷ []

  -- a relation that has a number keeps its stratum
  pub stratum_of_number : (q p : List ℕ) (m : RelNo) → number_of q p ds ≡ Some m → stratum_numbered more m ≡ stratum_numbered ds m
  stratum_of_number q p m h = by_bool (bytes_eq q d.name)
      (λ t.
      let own : number_of d.name p ds ≡ Some m = subst (λ (n : List ℕ). number_of n p ds ≡ Some m) (one_name q d.name t) h in
      let parts = number_parts ds d.name p m own in
      let x = its_relation ds d.name p m own in
      last.stratum_kept ds d w parts.0 parts.1 m x.0 x.1 x.2)
      (λ f. stratum_same ds d q f m (premise_named ds d q p m h))

  no_number : (f : ℕ → Option RelNo) → ((n : ℕ) → f n ≡ None) → (o : Option ℕ) → option_and_then f o ≡ None
  no_number f h None = refl
  no_number f h (Some n) = h n

  -- a declaration that makes no relation more leaves the numbers of its namespace's relations
  own_numbers_kept : relation_count d.name more ≡ relation_count d.name ds → (p : List ℕ) → number_of d.name p more ≡ number_of d.name p ds
  own_numbers_kept h p = by (relations_of d.name ds) refl
    where
      by_name : (os : List Relation) → relations_of d.name ds ≡ Some os → relation_names d.relations ≡ relation_names os → (o : Option Relation) → relation_named p os ≡ o
          → number_of d.name p more ≡ number_of d.name p ds
      by_name os found names None at =
          let none : position (bytes_eq p) (relation_names os) ≡ None = absent p os at in
          let now : number_of d.name p more ≡ None = no_number _ (λ n. rw (relations_last ds d, names, none) refl) (place_of d.name (namespace_names more)) in
          let was : number_of d.name p ds ≡ None = no_number _ (λ n. rw (found, none) refl) (place_of d.name (namespace_names ds)) in
          now ∙ sym was
      by_name os found names (Some x) at =
          let n = numbered ds d.name p x (rw found at) in
          last.number_kept ds d w os found p n.number n.is ∙ sym n.is

      by : (o : Option (List Relation)) → relations_of d.name ds ≡ o → number_of d.name p more ≡ number_of d.name p ds
      by None found =
          let count : length d.relations ≡ 0 = rw (relations_last ds d, found) at h in
          let now : number_of d.name p more ≡ None = no_number _ (λ n. rw (relations_last ds d, nothing d.relations count) refl) (place_of d.name (namespace_names more)) in
          let was : number_of d.name p ds ≡ None = no_number _ (λ n. rw found refl) (place_of d.name (namespace_names ds)) in
          now ∙ sym was
      by (Some os) found =
          let count : length d.relations ≡ length os = rw (relations_last ds d, found) at h in
          let kept = last.kept ds d w os found in
          let names = names_kept os d.relations kept.names in
          let new = length-map d.relations (λ (r : Relation). r.name) in
          let old = length-map os (λ (r : Relation). r.name) in
          let all : length (relation_names os ++ names.0) ≡ length (relation_names os) = ap length (sym names.1) ∙ new ∙ count ∙ sym old in
          by_name os found (names.1 ∙ ap (λ xs. relation_names os ++ xs) (no_more (relation_names os) names.0 all) ∙ append-nil (relation_names os)) (relation_named p os) refl

  -- those of other namespaces have theirs anyway
  pub numbers_kept : (q : List ℕ) → (q ≡ d.name → relation_count d.name more ≡ relation_count d.name ds) → (p : List ℕ) → number_of q p more ≡ number_of q p ds
  numbers_kept q count p = by_bool (bytes_eq q d.name)
      (λ t.
      let same : q ≡ d.name = one_name q d.name t in
      subst (λ (n : List ℕ). number_of n p more ≡ number_of n p ds) (sym same) (own_numbers_kept (count same) p))
      (λ f. number_same ds d q f p)

  module _ (s g : SetValue) (count : g.namespace ≡ d.name → relation_count d.name more ≡ relation_count d.name ds) where
    -- a read of one of that userset's namespace
    read_kept : (r : List ℕ) (p : RelationName) → Some (record { namespace = g.namespace; relation = r }) ≡ Some p → number_of p.namespace p.relation more ≡ number_of p.namespace p.relation ds
    read_kept r p read =
        let same : record { namespace = g.namespace; relation = r } ≡ p = cc in
        subst (λ (x : RelationName). number_of x.namespace x.relation more ≡ number_of x.namespace x.relation ds) same (numbers_kept g.namespace count r)

    userset_kept : IsKept ds more (read_in_userset g)
    userset_kept = record { number = number; stratum = λ place p m read found. stratum_of_number p.namespace p.relation m found }
      where
        number : (place : Place) (p : RelationName) → read_in_userset g place ≡ Some p → number_of p.namespace p.relation more ≡ number_of p.namespace p.relation ds
        number at_this p read = read_kept g.relation p read
        number (at_computed r) p read = cc
        number (at_tuple_to t c) p read = cc

    object_kept : IsKept ds more (read_through s.relation g)
    object_kept = record { number = number; stratum = λ place p m read found. stratum_of_number p.namespace p.relation m found }
      where
        number : (place : Place) (p : RelationName) → read_through s.relation g place ≡ Some p → number_of p.namespace p.relation more ≡ number_of p.namespace p.relation ds
        number at_this p read = cc
        number (at_computed q) p read = cc
        number (at_tuple_to t c) p read = by_bool (bytes_eq t s.relation)
            (λ y. read_kept c p (rw y at read))
            (λ n. let none : None ≡ Some p = rw n at read in cc)

    -- the edges of a tuple of another namespace stay
    others_same : bytes_eq s.namespace d.name ≡ false → first_broken more (userset_edges more s g) ≡ first_broken ds (userset_edges ds s g)
    others_same other =
        edges_joined more (this_edges more s g) (tuple_to_edges more s g)
        ∙ (λ i. both (this_same i) (tuple_to_same i))
        ∙ sym (edges_joined ds (this_edges ds s g) (tuple_to_edges ds s g))
      where
        this_same : first_broken more (this_edges more s g) ≡ first_broken ds (this_edges ds s g)
        this_same = rw (number_same ds d s.namespace other s.relation) (by (number_of s.namespace s.relation ds) refl)
          where
            by : (o : Option RelNo) → number_of s.namespace s.relation ds ≡ o
                → first_broken more (unwrap_or (option_map (relation_edges more (read_in_userset g)) o) []) ≡ first_broken ds (unwrap_or (option_map (relation_edges ds (read_in_userset g)) o) [])
            by None is = refl
            by (Some m) is = relation_same ds d s.namespace other (read_in_userset g) userset_kept m.namespace (premise_named ds d s.namespace s.relation m is) m.relation

        tuple_to_same : first_broken more (tuple_to_edges more s g) ≡ first_broken ds (tuple_to_edges ds s g)
        tuple_to_same = rw (place_same ds d s.namespace other) (by (place_of s.namespace (namespace_names ds)) refl)
          where
            by : (o : Option ℕ) → place_of s.namespace (namespace_names ds) ≡ o
                → first_broken more (unwrap_or (option_map (namespace_edges more (read_through s.relation g)) o) []) ≡ first_broken ds (unwrap_or (option_map (namespace_edges ds (read_through s.relation g)) o) [])
            by None is = refl
            by (Some n) is = namespace_same ds d s.namespace other (read_through s.relation g) object_kept n (placed s.namespace (namespace_names ds) n is)

    -- of a tuple of its own namespace the last rules decide, where no edge was broken
    module _ (own : s.namespace ≡ d.name) (none : first_broken ds (userset_edges ds s g) ≡ Ok (tt {0})) where
      were : (first_broken ds (this_edges ds s g) ≡ Ok (tt {0})) × (first_broken ds (tuple_to_edges ds s g) ≡ Ok (tt {0}))
      were = both_ok (first_broken ds (this_edges ds s g)) (first_broken ds (tuple_to_edges ds s g)) (sym (edges_joined ds (this_edges ds s g) (tuple_to_edges ds s g)) ∙ none)

      last_this : first_broken more (unwrap_or (option_map (last_relation_edges more (read_in_userset g)) (number_of s.namespace s.relation more)) []) ≡ first_broken more (this_edges more s g)
      last_this = by (number_of s.namespace s.relation more) refl
        where
          by : (o : Option RelNo) → number_of s.namespace s.relation more ≡ o
              → first_broken more (unwrap_or (option_map (last_relation_edges more (read_in_userset g)) o) []) ≡ first_broken more (unwrap_or (option_map (relation_edges more (read_in_userset g)) o) [])
          by None is = refl
          by (Some m) is =
              let here : number_of d.name s.relation more ≡ Some m = subst (λ (n : List ℕ). number_of n s.relation more ≡ Some m) own is in
              sym (last.relation_same ds d w (read_in_userset g) (λ os found k same r h. rules_same ds more (read_in_userset g) userset_kept k same (history d.name r ds) ∙ h)
              m.namespace (number_parts more d.name s.relation m here).2 m.relation
              (λ name k x now was named shown.
              let one : name ≡ s.relation = one_relation more d.name name s.relation m now here in
              let there : number_of s.namespace s.relation ds ≡ Some k = rw own (subst (λ (r : List ℕ). number_of d.name r ds ≡ Some k) one was) in
              rw there at were.0))

      last_tuple_to : first_broken more (unwrap_or (option_map (last_edges more (read_through s.relation g)) (place_of s.namespace (namespace_names more))) []) ≡ first_broken more (tuple_to_edges more s g)
      last_tuple_to = by (place_of s.namespace (namespace_names more)) refl
        where
          by : (o : Option ℕ) → place_of s.namespace (namespace_names more) ≡ o
              → first_broken more (unwrap_or (option_map (last_edges more (read_through s.relation g)) o) []) ≡ first_broken more (unwrap_or (option_map (namespace_edges more (read_through s.relation g)) o) [])
          by None is = refl
          by (Some n) is =
              let reads = read_through s.relation g in
              sym (last.namespace_same ds d w reads (λ os found k same r h. rules_same ds more reads object_kept k same (history d.name r ds) ∙ h)
              n (subst (λ (q : List ℕ). place_of q (namespace_names more) ≡ Some n) own is)
              (λ reader name m x now was named shown.
              let there : place_of s.namespace (namespace_names ds) ≡ Some m.namespace = rw own (number_parts ds d.name name m was).2 in
              all_unbroken ds (relation_edges ds reads m)
              (λ e c. unbroken ds (namespace_edges ds reads m.namespace) (rw there at were.1) e (edge_of_namespace ds m d.name x named shown reads e c))))

      pub last_same : first_broken more (last_userset_edges more s g) ≡ first_broken more (userset_edges more s g)
      last_same =
          edges_joined more (unwrap_or (option_map (last_relation_edges more (read_in_userset g)) (number_of s.namespace s.relation more)) [])
          (unwrap_or (option_map (last_edges more (read_through s.relation g)) (place_of s.namespace (namespace_names more))) [])
          ∙ (λ i. both (last_this i) (last_tuple_to i))
          ∙ sym (edges_joined more (this_edges more s g) (tuple_to_edges more s g))

-- after a declaration of the namespace q: a tuple's userset of that namespace, and one of another
module _ (es ds : List Declaration) (d : Declaration) (q : List ℕ) (s g : SetValue) (w : IsWellFormed es) (are : es ≡ ds ++ d ∷ []) (name : d.name ≡ q)
    (count : g.namespace ≡ q → relation_count q es ≡ relation_count q ds) (none : first_broken ds (userset_edges ds s g) ≡ Ok (tt {0})) where
  pub last_rules_decide : bytes_eq s.namespace q ≡ true → first_broken es (last_userset_edges es s g) ≡ first_broken es (userset_edges es s g)
  last_rules_decide own =
      subst (λ (cs : List Declaration). IsWellFormed cs → (g.namespace ≡ q → relation_count q cs ≡ relation_count q ds) → first_broken cs (last_userset_edges cs s g) ≡ first_broken cs (userset_edges cs s g)) (sym are)
      (λ v c. last_same ds d v s g (subst (λ (p : List ℕ). g.namespace ≡ p → relation_count p (ds ++ d ∷ []) ≡ relation_count p ds) (sym name) c) (one_name s.namespace q own ∙ sym name) none) w count

  pub others_unbroken : bytes_eq s.namespace q ≡ false → Ok (tt {0}) ≡ first_broken es (userset_edges es s g)
  others_unbroken other =
      subst (λ (cs : List Declaration). IsWellFormed cs → (g.namespace ≡ q → relation_count q cs ≡ relation_count q ds) → Ok (tt {0}) ≡ first_broken cs (userset_edges cs s g)) (sym are)
      (λ v c. sym (others_same ds d v s g (subst (λ (p : List ℕ). g.namespace ≡ p → relation_count p (ds ++ d ∷ []) ≡ relation_count p ds) (sym name) c)
      (subst (λ (p : List ℕ). bytes_eq s.namespace p ≡ false) (sym name) other) ∙ none)) w count
