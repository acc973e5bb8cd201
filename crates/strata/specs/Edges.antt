-- The edges that rules and tuples give, in the order in which they are looked at, and which of them are broken.
use Rattle.std.specs.Prelude.{◌≡◌, ℕ, List, [], ◌∷◌, ◌++◌, length, Bool, true, false, not, nat_lt, find, Option, None, Some, option_map, option_and_then, unwrap_or, if◌then◌else◌, Result, Ok, Err}
use Rattle.std.specs.List.{flat_map, filter_map, enumerate_from, range_with_len}
use Rattle.std.specs.Str.{bytes_eq}
use Rattle.tuple_text.specs.Sets.{SetValue}
use Rattle.tuple_text.specs.Tuples.{TupleValue}
use Rattle.tuple_text.specs.declared.users.User.{User}
use Rattle.tuple_text.specs.declared.users.User.TheVariants.{Id, Set}
use Rattle.namespaces.specs.declared.number.RelNo.{RelNo}
use Rattle.rewrites.specs.Expression.{Expression, this, computed, tuple_to, union, inter, minus, Expressions, no_child, child}
use Rattle.namespaces.specs.Declaration.{Relation, Declaration}
use Rattle.namespaces.specs.Lookup.{namespace_names, namespace_numbered, relations_of, relation_numbered, history_numbered, number_of, place_of}
use Rattle.strata.specs.declared.edge.Edge.{Edge}

-- a relation of a namespace
pub record RelationName : Type 0 where
  pub namespace : List ℕ
  pub relation : List ℕ

-- ---- what a rule reads

-- a place of an expression that reads
pub data Place : Type 0 where
  at_this : Place
  at_computed : List ℕ → Place
  at_tuple_to : List ℕ → List ℕ → Place

-- the places in pre-order, each with whether it lies under a subtracted side
abbrev mutual
  pub places : Bool → Expression → List (Bool × Place)
  places strict this = (strict, at_this) ∷ []
  places strict (computed q) = (strict, at_computed q) ∷ []
  places strict (tuple_to q c) = (strict, at_tuple_to q c) ∷ []
  places strict (union es) = all_places strict es
  places strict (inter es) = all_places strict es
  places strict (minus a b) = places strict a ++ places true b

  pub all_places : Bool → Expressions → List (Bool × Place)
  all_places strict no_child = []
  all_places strict (child e es) = places strict e ++ all_places strict es

-- what a place of a namespace's rule reads by itself
abbrev pub read_by_rule : List ℕ → Place → Option RelationName
read_by_rule namespace at_this = None
read_by_rule namespace (at_computed q) = Some (record { namespace = namespace; relation = q })
read_by_rule namespace (at_tuple_to q c) = None

-- what it reads where a tuple of its own relation has the userset g as its user
abbrev pub read_in_userset : SetValue → Place → Option RelationName
read_in_userset g at_this = Some (record { namespace = g.namespace; relation = g.relation })
read_in_userset g (at_computed q) = None
read_in_userset g (at_tuple_to q c) = None

-- what it reads where a tuple of the relation r of its object has the userset g as its user
abbrev pub read_through : List ℕ → SetValue → Place → Option RelationName
read_through r g at_this = None
read_through r g (at_computed q) = None
read_through r g (at_tuple_to q c) = if bytes_eq q r then Some (record { namespace = g.namespace; relation = c }) else None

-- ---- edges

-- a relation that is not declared gives no edge
abbrev pub edge_to : List Declaration → RelNo → Bool → RelationName → Option Edge
edge_to ds reader strict p = option_map (λ n. record { reader = reader; premise = n; strict = strict }) (number_of p.namespace p.relation ds)

abbrev pub edge_at : List Declaration → RelNo → (Place → Option RelationName) → Bool × Place → Option Edge
edge_at ds reader reads (strict, place) = option_and_then (edge_to ds reader strict) (reads place)

abbrev pub edges_in : List Declaration → RelNo → (Place → Option RelationName) → Expression → List Edge
edges_in ds reader reads e = filter_map (edge_at ds reader reads) (places false e)

-- the edges of all rules that a relation ever had, by time
abbrev pub relation_edges : List Declaration → (Place → Option RelationName) → RelNo → List Edge
relation_edges ds reads reader = flat_map (λ (r : Relation). edges_in ds reader reads r.expression) (history_numbered reader ds)

-- the relations of the namespace that has the number n
abbrev pub relations_in : List Declaration → ℕ → List Relation
relations_in ds n = unwrap_or (option_and_then (λ namespace. relations_of namespace ds) (namespace_numbered n ds)) []

-- the edges of all rules of a namespace, relation by relation
abbrev pub namespace_edges : List Declaration → (Place → Option RelationName) → ℕ → List Edge
namespace_edges ds reads n =
    flat_map (λ r. relation_edges ds reads (record { namespace = n; relation = r })) (range_with_len 1 (length (relations_in ds n)))

-- the edges of the rules of the namespace that has a name
abbrev pub edges_of_namespace : List Declaration → List ℕ → List Edge
edges_of_namespace ds q = unwrap_or (option_map (namespace_edges ds (read_by_rule q)) (place_of q (namespace_names ds))) []

-- the edges of the last rule of a relation
abbrev pub last_relation_edges : List Declaration → (Place → Option RelationName) → RelNo → List Edge
last_relation_edges ds reads reader = unwrap_or (option_map (λ (r : Relation). edges_in ds reader reads r.expression) (relation_numbered reader ds)) []

-- and of the last rules of a namespace, relation by relation
abbrev pub last_edges : List Declaration → (Place → Option RelationName) → ℕ → List Edge
last_edges ds reads n =
    flat_map (λ r. last_relation_edges ds reads (record { namespace = n; relation = r })) (range_with_len 1 (length (relations_in ds n)))

-- and of the last rules of the namespace that has a name
abbrev pub last_edges_of_namespace : List Declaration → List ℕ → List Edge
last_edges_of_namespace ds q = unwrap_or (option_map (last_edges ds (read_by_rule q)) (place_of q (namespace_names ds))) []

-- the edges of the rules alone, namespace by namespace
abbrev pub rule_edges : List Declaration → List Edge
rule_edges ds = flat_map (λ (p : ℕ × List ℕ). namespace_edges ds (read_by_rule p.1) p.0) (enumerate_from 1 (namespace_names ds))

-- the edges of each `this` in the rules of s, where a tuple of s has the userset g as its user
abbrev pub this_edges : List Declaration → SetValue → SetValue → List Edge
this_edges ds s g = unwrap_or (option_map (relation_edges ds (read_in_userset g)) (number_of s.namespace s.relation ds)) []

-- the edges of each `tuple_to` of the namespace of s that reads the relation of s
abbrev pub tuple_to_edges : List Declaration → SetValue → SetValue → List Edge
tuple_to_edges ds s g = unwrap_or (option_map (namespace_edges ds (read_through s.relation g)) (place_of s.namespace (namespace_names ds))) []

abbrev pub userset_edges : List Declaration → SetValue → SetValue → List Edge
userset_edges ds s g = this_edges ds s g ++ tuple_to_edges ds s g

-- the same by the last rules alone
abbrev pub last_userset_edges : List Declaration → SetValue → SetValue → List Edge
last_userset_edges ds s g =
    unwrap_or (option_map (last_relation_edges ds (read_in_userset g)) (number_of s.namespace s.relation ds)) []
    ++ unwrap_or (option_map (last_edges ds (read_through s.relation g)) (place_of s.namespace (namespace_names ds))) []

abbrev pub user_edges : List Declaration → SetValue → User → List Edge
user_edges ds s (Id n) = []
user_edges ds s (Set g) = userset_edges ds s g

-- the edges that a tuple gives
abbrev pub tuple_edges : List Declaration → TupleValue → List Edge
tuple_edges ds t = user_edges ds t.set t.user

-- the edges that tuples give, tuple by tuple
abbrev pub edges_of_tuples : List Declaration → List TupleValue → List Edge
edges_of_tuples ds ts = flat_map (tuple_edges ds) ts

-- ---- broken edges

abbrev pub stratum_numbered : List Declaration → RelNo → Option ℕ
stratum_numbered ds n = option_map (λ r. r.stratum) (relation_numbered n ds)

abbrev pub is_broken_between : Option ℕ → Option ℕ → Bool → Bool
is_broken_between None premise strict = false
is_broken_between (Some r) None strict = false
is_broken_between (Some r) (Some p) true = not (nat_lt p r)
is_broken_between (Some r) (Some p) false = nat_lt r p

-- a plain edge wants the premise's stratum at or below the reader's, a strict one below it
abbrev pub is_broken : List Declaration → Edge → Bool
is_broken ds e = is_broken_between (stratum_numbered ds e.reader) (stratum_numbered ds e.premise) e.strict

abbrev pub refused : Option Edge → Result (Unit {0}) Edge
refused None = Ok (tt {0})
refused (Some e) = Err e

-- the first of the edges that is broken, or Ok where none is
abbrev pub first_broken : List Declaration → List Edge → Result (Unit {0}) Edge
first_broken ds es = refused (find (is_broken ds) es)

-- the last rules of a namespace give no broken edge through a tupleset, whatever tuple is stored
abbrev pub HasNoneThrough : List Declaration → List ℕ → Type 0
HasNoneThrough ds q =
    (r : List ℕ) (g : SetValue) → first_broken ds (unwrap_or (option_map (last_edges ds (read_through r g)) (place_of q (namespace_names ds))) []) ≡ Ok (tt {0})

-- no edge of the rules is broken, and none of a tuple
pub record HasNoBrokenEdge (ds : List Declaration) (ts : List TupleValue) : Type 0 where
  pub of_rules : first_broken ds (rule_edges ds) ≡ Ok (tt {0})
  pub of_tuples : first_broken ds (edges_of_tuples ds ts) ≡ Ok (tt {0})
