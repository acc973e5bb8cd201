-- Edges whose ends a declaration more leaves as they were.
use Rattle.std.proofs.Common.{◌≡◌, Bool, false, List, [], ◌∷◌, Option, None, Some, option_map, option_and_then, refl, sym, ◌∙◌}
use Rattle.std.specs.List.{flat_map, filter_map, cons_option}
use Rattle.namespaces.specs.declared.number.RelNo.{RelNo}
use Rattle.namespaces.specs.Declaration.{Relation, Declaration}
use Rattle.namespaces.specs.Lookup.{number_of}
use Rattle.rewrites.proofs.Names.{by_bool}
use Rattle.strata.specs.declared.edge.Edge.{Edge}
use Rattle.strata.specs.Edges.{RelationName, Place, places, edge_to, edge_at, edges_in, stratum_numbered, is_broken, first_broken}
use Rattle.strata.proofs.Walks.{both, edges_joined}

-- lists that agree item by item, over two lists of declarations
pub flat_same : {X : Type 0} (es ds : List Declaration) (f g : X → List Edge) → ((x : X) → first_broken es (f x) ≡ first_broken ds (g x)) → (xs : List X) → first_broken es (flat_map f xs) ≡ first_broken ds (flat_map g xs)
flat_same es ds f g same [] = refl
flat_same es ds f g same (x ∷ xs) =
    edges_joined es (f x) (flat_map f xs) ∙ (λ i. both (same x i) (flat_same es ds f g same xs i)) ∙ sym (edges_joined ds (g x) (flat_map g xs))

-- what is read has the number that it had, and its stratum
pub record IsKept (ds es : List Declaration) (reads : Place → Option RelationName) : Type 0 where
  pub number : (place : Place) (p : RelationName) → reads place ≡ Some p → number_of p.namespace p.relation es ≡ number_of p.namespace p.relation ds
  pub stratum : (place : Place) (p : RelationName) (m : RelNo) → reads place ≡ Some p → number_of p.namespace p.relation ds ≡ Some m → stratum_numbered es m ≡ stratum_numbered ds m

module _ (ds es : List Declaration) (reads : Place → Option RelationName) (kept : IsKept ds es reads) (reader : RelNo) (same_reader : stratum_numbered es reader ≡ stratum_numbered ds reader) where
  places_same : (ps : List (Bool × Place)) → first_broken es (filter_map (edge_at es reader reads) ps) ≡ first_broken ds (filter_map (edge_at ds reader reads) ps)
  places_same [] = refl
  places_same ((b, place) ∷ ps) = by (reads place) refl (places_same ps)
    where
      by_number : (p : RelationName) → reads place ≡ Some p → (o : Option RelNo) → number_of p.namespace p.relation ds ≡ o
          → first_broken es (filter_map (edge_at es reader reads) ps) ≡ first_broken ds (filter_map (edge_at ds reader reads) ps)
          → first_broken es (cons_option (option_map (λ m. record { reader = reader; premise = m; strict = b }) o) (filter_map (edge_at es reader reads) ps))
          ≡ first_broken ds (cons_option (option_map (λ m. record { reader = reader; premise = m; strict = b }) o) (filter_map (edge_at ds reader reads) ps))
      by_number p read None is rest = rest
      by_number p read (Some m) is rest =
          let e : Edge = record { reader = reader; premise = m; strict = b } in
          let same : is_broken es e ≡ is_broken ds e = rw (same_reader, kept.stratum place p m read is) refl in
          by_bool (is_broken ds e) (λ t. rw (same, t) refl) (λ f. rw (same, f) rest)

      by : (o : Option RelationName) → reads place ≡ o
          → first_broken es (filter_map (edge_at es reader reads) ps) ≡ first_broken ds (filter_map (edge_at ds reader reads) ps)
          → first_broken es (cons_option (option_and_then (edge_to es reader b) o) (filter_map (edge_at es reader reads) ps))
          ≡ first_broken ds (cons_option (option_and_then (edge_to ds reader b) o) (filter_map (edge_at ds reader reads) ps))
      by None read rest = rest
      by (Some p) read rest = rw (kept.number place p read) (by_number p read (number_of p.namespace p.relation ds) refl rest)

  -- the first broken edge of rules stays
  pub rules_same : (ys : List Relation)
      → first_broken es (flat_map (λ (y : Relation). edges_in es reader reads y.expression) ys) ≡ first_broken ds (flat_map (λ (y : Relation). edges_in ds reader reads y.expression) ys)
  rules_same ys = flat_same es ds (λ (y : Relation). edges_in es reader reads y.expression) (λ (y : Relation). edges_in ds reader reads y.expression) (λ y. places_same (places false y.expression)) ys
