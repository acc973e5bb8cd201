-- The edges of the rules do not turn on timestamps.
use Rattle.std.proofs.Common.{◌≡◌, ℕ, List, [], ◌∷◌, ◌++◌, length, Bool, false, if◌then◌else◌, Option, None, Some, option_map, option_and_then, unwrap_or, find, Result, Ok, Err, refl, ap, ◌∙◌}
use Rattle.std.proofs.Math.Path.{fun_ext}
use Rattle.std.specs.List.{flat_map, filter_map, enumerate_from, range_with_len, cons_option}
use Rattle.std.specs.Option.{option_or}
use Rattle.std.specs.Str.{bytes_eq}
use Rattle.serde_json.specs.Data.{Data}
use Rattle.namespaces.specs.declared.number.RelNo.{RelNo}
use Rattle.namespaces.specs.declared.fault.RulesFault.{RulesFault}
use Rattle.refusals.specs.Refusals.{◌>>=◌}
use Rattle.namespaces.specs.Declaration.{Relation, Namespace, Declaration, change}
use Rattle.namespaces.specs.Lookup.{declared_in, history, relations_of, with_name, names_after, namespace_names, namespace_numbered, relation_numbered, history_numbered, number_of, item_at}
use Rattle.namespaces.specs.Changing.{changed, rules_change}
use Rattle.strata.specs.declared.edge.Edge.{Edge}
use Rattle.strata.specs.Edges.{RelationName, Place, places, edge_at, edges_in, relation_edges, relations_in, namespace_edges, rule_edges, read_by_rule, stratum_numbered, is_broken, refused, first_broken}

-- the same declarations, but for when they are in force
pub record AreAlike (ds es : List Declaration) : Type 0 where
  pub names : namespace_names ds ≡ namespace_names es
  pub relations : (q : List ℕ) → relations_of q ds ≡ relations_of q es
  pub histories : (q r : List ℕ) → history q r ds ≡ history q r es

module _ (ds es : List Declaration) (alike : AreAlike ds es) where
  named_alike : (n : ℕ) → namespace_numbered n ds ≡ namespace_numbered n es
  named_alike n = ap (item_at n) alike.names

  numbered_alike : (number : RelNo) → relation_numbered number ds ≡ relation_numbered number es
  numbered_alike number =
      ap (λ o. option_and_then (λ q. option_and_then (item_at number.relation) (relations_of q ds)) o) (named_alike number.namespace)
      ∙ ap (λ (f : List ℕ → Option (List Relation)). option_and_then (λ q. option_and_then (item_at number.relation) (f q)) (namespace_numbered number.namespace es)) (fun_ext alike.relations)

  number_alike : (q r : List ℕ) → number_of q r ds ≡ number_of q r es
  number_alike q r = rw (alike.names, alike.relations q) refl

  stratum_alike : (number : RelNo) → stratum_numbered ds number ≡ stratum_numbered es number
  stratum_alike number = ap (option_map (λ (r : Relation). r.stratum)) (numbered_alike number)

  broken_alike : (e : Edge) → is_broken ds e ≡ is_broken es e
  broken_alike e = rw (stratum_alike e.reader, stratum_alike e.premise) refl

  history_alike : (number : RelNo) → history_numbered number ds ≡ history_numbered number es
  history_alike number =
      rw (numbered_alike number, named_alike number.namespace)
      (ap (λ (f : List ℕ → List ℕ → List Relation). unwrap_or (option_and_then (λ q. option_map (λ (r : Relation). f q r.name) (relation_numbered number es)) (namespace_numbered number.namespace es)) [])
      (fun_ext (λ q. fun_ext (alike.histories q))))

  module _ (reads : Place → Option RelationName) where
    at_alike : (reader : RelNo) (p : Bool × Place) → edge_at ds reader reads p ≡ edge_at es reader reads p
    at_alike reader (strict, place) =
        ap (λ (f : RelationName → Option Edge). option_and_then f (reads place))
        (fun_ext (λ (n : RelationName). ap (option_map (λ m. record { reader = reader; premise = m; strict = strict })) (number_alike n.namespace n.relation)))

    relation_alike : (reader : RelNo) → relation_edges ds reads reader ≡ relation_edges es reads reader
    relation_alike reader =
        ap (λ (f : Bool × Place → Option Edge). flat_map (λ (r : Relation). filter_map f (places false r.expression)) (history_numbered reader ds)) (fun_ext (at_alike reader))
        ∙ ap (flat_map (λ (r : Relation). edges_in es reader reads r.expression)) (history_alike reader)

    count_alike : (n : ℕ) → length (relations_in ds n) ≡ length (relations_in es n)
    count_alike n =
        rw (named_alike n)
        (ap (λ (f : List ℕ → Option (List Relation)). length (unwrap_or (option_and_then f (namespace_numbered n es)) [])) (fun_ext alike.relations))

    namespace_alike : (n : ℕ) → namespace_edges ds reads n ≡ namespace_edges es reads n
    namespace_alike n =
        ap (λ (f : RelNo → List Edge). flat_map (λ r. f (record { namespace = n; relation = r })) (range_with_len 1 (length (relations_in ds n)))) (fun_ext relation_alike)
        ∙ ap (λ m. flat_map (λ r. relation_edges es reads (record { namespace = n; relation = r })) (range_with_len 1 m)) (count_alike n)

  rules_alike : rule_edges ds ≡ rule_edges es
  rules_alike =
      ap (λ (f : ℕ × List ℕ → List Edge). flat_map f (enumerate_from 1 (namespace_names ds))) (fun_ext (λ (p : ℕ × List ℕ). namespace_alike (read_by_rule p.1) p.0))
      ∙ ap (λ ns. flat_map (λ (p : ℕ × List ℕ). namespace_edges es (read_by_rule p.1) p.0) (enumerate_from 1 ns)) alike.names

  pub first_alike : first_broken ds (rule_edges ds) ≡ first_broken es (rule_edges es)
  first_alike =
      ap (λ (f : Edge → Bool). refused (find f (rule_edges ds))) (fun_ext broken_alike)
      ∙ ap (first_broken es) rules_alike

-- ---- a change at one timestamp or at another

module _ (at by : ℕ) (n : Namespace) where
  names_changed : (ns : List (List ℕ)) (ds : List Declaration) → names_after ns (ds ++ change at n ∷ []) ≡ names_after ns (ds ++ change by n ∷ [])
  names_changed ns [] = refl
  names_changed ns (d ∷ ds) = names_changed (with_name ns d.name) ds

  relations_changed : (q : List ℕ) (ds : List Declaration) → relations_of q (ds ++ change at n ∷ []) ≡ relations_of q (ds ++ change by n ∷ [])
  relations_changed q [] = refl
  relations_changed q (d ∷ ds) = ap (λ o. option_or o (if bytes_eq q d.name then Some d.relations else None)) (relations_changed q ds)

  histories_changed : (q r : List ℕ) (ds : List Declaration) → history q r (ds ++ change at n ∷ []) ≡ history q r (ds ++ change by n ∷ [])
  histories_changed q r [] = refl
  histories_changed q r (d ∷ ds) = ap (cons_option (declared_in q r d)) (histories_changed q r ds)

  changed_alike : (ds : List Declaration) → AreAlike (ds ++ change at n ∷ []) (ds ++ change by n ∷ [])
  changed_alike ds = record {
    names = names_changed [] ds;
    relations = λ q. relations_changed q ds;
    histories = λ q r. histories_changed q r ds;
  }

-- the first broken edge is the same, whenever the change is in force
pub same_at_any_time : (ds : List Declaration) (d : Data) (at by : ℕ) (early late : List Declaration)
    → rules_change ds at d ≡ Ok early → rules_change ds by d ≡ Ok late → first_broken early (rule_edges early) ≡ first_broken late (rule_edges late)
same_at_any_time ds d at by early late a b = by_answer (changed ds d) a b
  where
    by_answer : (o : Result Namespace RulesFault)
        → (o >>= λ n. Ok (ds ++ change at n ∷ [])) ≡ Ok early
        → (o >>= λ n. Ok (ds ++ change by n ∷ [])) ≡ Ok late
        → first_broken early (rule_edges early) ≡ first_broken late (rule_edges late)
    by_answer (Err e) x y = cc
    by_answer (Ok n) x y =
        let s : ds ++ change at n ∷ [] ≡ early = cc in
        let t : ds ++ change by n ∷ [] ≡ late = cc in
        rw (← s, ← t) (first_alike (ds ++ change at n ∷ []) (ds ++ change by n ∷ []) (changed_alike at by n ds))
