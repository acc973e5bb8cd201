-- Where no edge of the rules is broken, and none of the tuples, strata are valid at each timestamp.
use Rattle.std.proofs.Common.{◌≡◌, ℕ, zero, suc, ◌≤◌, ◌<◌, List, [], ◌∷◌, slice_get, Bool, true, false, Option, None, Some, option_map, option_and_then, refl, subst, sym, ap, ◌∙◌, arith}
use Rattle.std.specs.Prelude.{Contains}
use Rattle.std.specs.List.{AllByRecursion}
use Rattle.std.proofs.lemmas.List.Elements.{Contains-append_left, Contains-append_right}
use Rattle.std.proofs.lemmas.Bool.Decides.{nat_tests}
use Rattle.tuple_text.specs.Sets.{SetValue}
use Rattle.tuple_text.specs.Tuples.{TupleValue, FactValue}
use Rattle.tuple_text.specs.declared.users.User.TheVariants.{Set}
use Rattle.namespaces.specs.declared.number.RelNo.{RelNo}
use Rattle.rewrites.specs.Expression.{Expression, this, computed, tuple_to, union, inter, minus, Expressions, no_child, child}
use Rattle.namespaces.specs.Declaration.{Relation, Declaration}
use Rattle.namespaces.specs.Lookup.{Rule, rule_of, as_rule, relation_at, rule_at, history, namespace_numbered, relation_numbered, history_numbered, number_of, place_of, namespace_names, relation_names, relations_of}
use Rattle.namespaces.specs.WellFormed.{IsWellFormed}
use Rattle.namespaces.proofs.Declared.{IsPlaced, one_stratum, in_force_placed, stays_declared, numbered, history_of_number}
use Rattle.rewrites.proofs.Names.{same_name}
use Rattle.strata.specs.declared.edge.Edge.{Edge}
use Rattle.strata.specs.Meaning.{with_relation, same_user, IsStored}
use Rattle.strata.specs.Strata.{EachPremise, EachPremises, IsAtMost, IsLower, HasValidStrata}
use Rattle.strata.specs.Edges.{Place, at_this, at_computed, at_tuple_to, places, all_places, read_by_rule, read_in_userset, read_through, rule_edges, this_edges, tuple_to_edges, userset_edges, tuple_edges, edges_of_tuples, stratum_numbered, is_broken_between, is_broken, HasNoBrokenEdge}
use Rattle.strata.proofs.Lists.{Contains-here}
use Rattle.strata.proofs.Unbroken.{Contains-flat_map, unbroken, edge_of_place, edge_of_namespace, edge_of_rules}

-- ---- premises, place by place

-- what holds of the premises that one place reads for f
abbrev PlaceMeets : List TupleValue → (FactValue → Type 0) → FactValue → Place → Type 0
PlaceMeets store P f at_this = (g : SetValue) → IsStored store f.set (Set g) → P (same_user f g)
PlaceMeets store P f (at_computed q) = P (same_user f (with_relation f.set q))
PlaceMeets store P f (at_tuple_to q c) =
    (g : SetValue) → IsStored store (with_relation f.set q) (Set g) → P (same_user f (with_relation g c))

abbrev chosen : Bool → (FactValue → Type 0) → (FactValue → Type 0) → FactValue → Type 0
chosen false P N = P
chosen true P N = N

mutual
  from_places : (store : List TupleValue) (P N : FactValue → Type 0) (f : FactValue) (s : Bool) (e : Expression)
      → ((b : Bool) (p : Place) → Contains (places s e) (b, p) → PlaceMeets store (chosen b P N) f p)
      → EachPremise store (chosen s P N) N f e
  from_places store P N f s this h = h s at_this (Contains-here (s, at_this) [])
  from_places store P N f s (computed q) h = h s (at_computed q) (Contains-here (s, at_computed q) [])
  from_places store P N f s (tuple_to q c) h = h s (at_tuple_to q c) (Contains-here (s, at_tuple_to q c) [])
  from_places store P N f s (union es) h = from_all_places store P N f s es h
  from_places store P N f s (inter es) h = from_all_places store P N f s es h
  from_places store P N f s (minus a b) h = (
    from_places store P N f s a (λ t p c. h t p (Contains-append_left (places s a) (places true b) (t, p) c)),
    from_places store P N f true b (λ t p c. h t p (Contains-append_right (places s a) (places true b) (t, p) c)),
  )

  from_all_places : (store : List TupleValue) (P N : FactValue → Type 0) (f : FactValue) (s : Bool) (es : Expressions)
      → ((b : Bool) (p : Place) → Contains (all_places s es) (b, p) → PlaceMeets store (chosen b P N) f p)
      → EachPremises store (chosen s P N) N f es
  from_all_places store P N f s no_child h = tt
  from_all_places store P N f s (child e es) h = (
    from_places store P N f s e (λ t p c. h t p (Contains-append_left (places s e) (all_places s es) (t, p) c)),
    from_all_places store P N f s es (λ t p c. h t p (Contains-append_right (places s e) (all_places s es) (t, p) c)),
  )

-- ---- a relation whose rule is in force

-- its number, its stratum there, and its rule among all that it ever had
record IsInForce (ds : List Declaration) (q r : List ℕ) (rule : Rule) : Type 0 where
  number : RelNo
  is : number_of q r ds ≡ Some number
  namespace : namespace_numbered number.namespace ds ≡ Some q
  relation : Relation
  there : relation_numbered number ds ≡ Some relation
  stratum : relation.stratum ≡ rule.stratum
  declared : Relation
  had : IsPlaced (history_numbered number ds) declared
  expression : declared.expression ≡ rule.expression

placed_all : {X : Type 0} (P : X → Type 0) (xs : List X) (x : X) → AllByRecursion P xs → IsPlaced xs x → P x
placed_all {X} P xs x all placed = go xs placed.place all placed.there
  where
    go : (ys : List X) (i : ℕ) → AllByRecursion P ys → slice_get ys i ≡ Some x → P x
    go [] i a h = cc
    go (y ∷ ys) zero a h = let there : Some y ≡ Some x = h in let e : y ≡ x = cc in subst P e a.0
    go (y ∷ ys) (suc i) a h = go ys i a.1 h

in_force : (ds : List Declaration) → IsWellFormed ds → (at : ℕ) (q r : List ℕ) (rule : Rule) → rule_at ds at q r ≡ Some rule → IsInForce ds q r rule
in_force ds w at q r rule found = by (relation_at ds at q r) refl found
  where
    by : (o : Option Relation) → relation_at ds at q r ≡ o → option_map as_rule o ≡ Some rule → IsInForce ds q r rule
    by None e h = cc
    by (Some y) e h =
        let same : as_rule y ≡ rule = cc in
        let placed = in_force_placed ds at q r y e in
        let last = stays_declared ds q r y w placed in
        let n = numbered ds q r last.0 last.1 in
        let one : y.stratum ≡ last.0.stratum = placed_all (λ (z : Relation). z.stratum ≡ last.0.stratum) (history q r ds) y (one_stratum ds q r last.0 w last.1) placed in
        record {
          number = n.number;
          is = n.is;
          namespace = n.namespace;
          relation = last.0;
          there = n.relation;
          stratum = sym one ∙ ap (λ (z : Rule). z.stratum) same;
          declared = y;
          had = subst (λ (zs : List Relation). IsPlaced zs y) (sym (history_of_number ds q r last.0 n.number last.1 n.namespace n.relation)) placed;
          expression = ap (λ (z : Rule). z.expression) same;
        }

place_of_number : (ds : List Declaration) (q r : List ℕ) (n : RelNo) → number_of q r ds ≡ Some n → place_of q (namespace_names ds) ≡ Some n.namespace
place_of_number ds q r n h = by (place_of q (namespace_names ds)) (option_and_then (λ rs. place_of r (relation_names rs)) (relations_of q ds)) h
  where
    by : (o p : Option ℕ) → option_and_then (λ m. option_map (λ k. record { namespace = m; relation = k }) p) o ≡ Some n → o ≡ Some n.namespace
    by None p h = cc
    by (Some m) None h = cc
    by (Some m) (Some k) h = let same : record { namespace = m; relation = k } ≡ n = cc in ap (λ (x : RelNo). Some x.namespace) same

-- ---- strata

kept_strict : (r p : ℕ) → is_broken_between (Some r) (Some p) true ≡ false → p < r
kept_strict r p h = grind (arith, nat_tests)

kept_plain : (r p : ℕ) → is_broken_between (Some r) (Some p) false ≡ false → p ≤ r
kept_plain r p h = grind (arith, nat_tests)

module _ (ds : List Declaration) (w : IsWellFormed ds) (ts : List TupleValue) (kept : HasNoBrokenEdge ds ts)
    (at : ℕ) (store : List TupleValue) (part : (t : TupleValue) → Contains store t → Contains ts t)
    (f : FactValue) (rule : Rule) (e : rule_of (rule_at ds at) f.set ≡ Some rule) where
  abbrev own : IsInForce ds f.set.namespace f.set.relation rule
  own = in_force ds w at f.set.namespace f.set.relation rule e

  own_places : (b : Bool) (p : Place) → Contains (places false rule.expression) (b, p) → Contains (places false own.declared.expression) (b, p)
  own_places b p c = subst (λ (x : Expression). Contains (places false x) (b, p)) (sym own.expression) c

  -- an edge that is not broken bounds the stratum of its premise
  bounded : (b : Bool) (g : FactValue)
      → ((m : RelNo) → number_of g.set.namespace g.set.relation ds ≡ Some m → is_broken ds (record { reader = own.number; premise = m; strict = b }) ≡ false)
      → chosen b (IsAtMost (rule_at ds at) rule.stratum) (IsLower (rule_at ds at) rule.stratum) g
  bounded b g h = by b h
    where
      between : (b : Bool) (s : Rule) → rule_of (rule_at ds at) g.set ≡ Some s
          → ((m : RelNo) → number_of g.set.namespace g.set.relation ds ≡ Some m → is_broken ds (record { reader = own.number; premise = m; strict = b }) ≡ false)
          → is_broken_between (Some rule.stratum) (Some s.stratum) b ≡ false
      between b s d h =
          let p = in_force ds w at g.set.namespace g.set.relation s d in
          let reader : stratum_numbered ds own.number ≡ Some rule.stratum = rw own.there (ap Some own.stratum) in
          let premise : stratum_numbered ds p.number ≡ Some s.stratum = rw p.there (ap Some p.stratum) in
          rw (← reader, ← premise) (h p.number p.is)

      by : (b : Bool)
          → ((m : RelNo) → number_of g.set.namespace g.set.relation ds ≡ Some m → is_broken ds (record { reader = own.number; premise = m; strict = b }) ≡ false)
          → chosen b (IsAtMost (rule_at ds at) rule.stratum) (IsLower (rule_at ds at) rule.stratum) g
      by false h = λ s d. kept_plain rule.stratum s.stratum (between false s d h)
      by true h = λ s d. kept_strict rule.stratum s.stratum (between true s d h)

  -- an edge of a stored tuple is not broken
  stored_unbroken : (s g : SetValue) → IsStored store s (Set g) → (x : Edge) → Contains (userset_edges ds s g) x → is_broken ds x ≡ false
  stored_unbroken s g c x d =
      let t : TupleValue = record { set = s; user = Set g } in
      unbroken ds (edges_of_tuples ds ts) kept.of_tuples x (Contains-flat_map (tuple_edges ds) ts t x (part t c) d)

  each_place : (b : Bool) (p : Place) → Contains (places false rule.expression) (b, p)
      → PlaceMeets store (chosen b (IsAtMost (rule_at ds at) rule.stratum) (IsLower (rule_at ds at) rule.stratum)) f p
  each_place b at_this c = λ g i. bounded b (same_user f g) (λ m n.
      let x : Edge = record { reader = own.number; premise = m; strict = b } in
      stored_unbroken f.set g i x
      (Contains-append_left (this_edges ds f.set g) (tuple_to_edges ds f.set g) x
      (rw own.is
      (edge_of_place ds (read_in_userset g) own.number m own.declared b at_this (record { namespace = g.namespace; relation = g.relation })
      own.had (own_places b at_this c) refl n))))
  each_place b (at_computed q) c = bounded b (same_user f (with_relation f.set q)) (λ m n.
      let x : Edge = record { reader = own.number; premise = m; strict = b } in
      unbroken ds (rule_edges ds) kept.of_rules x
      (edge_of_rules ds own.number.namespace f.set.namespace x own.namespace
      (edge_of_namespace ds own.number f.set.namespace own.relation own.namespace own.there (read_by_rule f.set.namespace) x
      (edge_of_place ds (read_by_rule f.set.namespace) own.number m own.declared b (at_computed q) (record { namespace = f.set.namespace; relation = q })
      own.had (own_places b (at_computed q) c) refl n))))
  each_place b (at_tuple_to q p) c = λ g i. bounded b (same_user f (with_relation g p)) (λ m n.
      let x : Edge = record { reader = own.number; premise = m; strict = b } in
      stored_unbroken (with_relation f.set q) g i x
      (Contains-append_right (this_edges ds (with_relation f.set q) g) (tuple_to_edges ds (with_relation f.set q) g) x
      (rw (place_of_number ds f.set.namespace f.set.relation own.number own.is)
      (edge_of_namespace ds own.number f.set.namespace own.relation own.namespace own.there (read_through q g) x
      (edge_of_place ds (read_through q g) own.number m own.declared b (at_tuple_to q p) (record { namespace = g.namespace; relation = p })
      own.had (own_places b (at_tuple_to q p) c) (rw (same_name q) refl) n)))))

  premises_bounded : EachPremise store (IsAtMost (rule_at ds at) rule.stratum) (IsLower (rule_at ds at) rule.stratum) f rule.expression
  premises_bounded =
      from_places store (IsAtMost (rule_at ds at) rule.stratum) (IsLower (rule_at ds at) rule.stratum) f false rule.expression each_place

pub valid_at_each_time_law : (ds : List Declaration) (ts : List TupleValue) → IsWellFormed ds → HasNoBrokenEdge ds ts
    → (at : ℕ) (store : List TupleValue) → ((t : TupleValue) → Contains store t → Contains ts t) → HasValidStrata (rule_at ds at) store
valid_at_each_time_law ds ts w kept at store part f rule e = premises_bounded ds w ts kept at store part f rule e
