-- Where rules are looked up: by name, by number, and at a timestamp.
use Rattle.std.specs.Prelude.{ℕ, ◌+◌, ◌-◌, ◌==◌, nat_le, if◌then◌else◌, List, [], ◌∷◌, ◌++◌, length, map, slice_get, position, Option, None, Some, option_map, option_and_then, unwrap_or, find}
use Rattle.std.specs.Option.{option_or}
use Rattle.std.specs.List.{filter_map, list_any}
use Rattle.std.specs.Str.{bytes_eq}
use Rattle.tuple_text.specs.Sets.{SetValue}
use Rattle.rewrites.specs.Expression.{Expression}
use Rattle.namespaces.specs.Declaration.{Relation, Declaration}
use Rattle.namespaces.specs.declared.number.RelNo.{RelNo}
use Rattle.namespaces.specs.declared.number.RulePlace.{RulePlace}

-- what is declared of one relation
pub record Rule : Type 0 where
  pub stratum : ℕ
  pub expression : Expression

-- the rule of a relation, by namespace and relation; None where it is undeclared
abbrev pub Lookup : Type 0
Lookup = List ℕ → List ℕ → Option Rule

abbrev pub rule_of : Lookup → SetValue → Option Rule
rule_of rules g = rules g.namespace g.relation

-- ---- by name

abbrev pub relation_named : List ℕ → List Relation → Option Relation
relation_named name rs = find (λ r. bytes_eq name r.name) rs

-- what a declaration says of a relation of a namespace
abbrev pub declared_in : List ℕ → List ℕ → Declaration → Option Relation
declared_in namespace relation d = if bytes_eq namespace d.name then relation_named relation d.relations else None

-- all that is declared of a relation, in order
abbrev pub history : List ℕ → List ℕ → List Declaration → List Relation
history namespace relation ds = filter_map (declared_in namespace relation) ds

-- the relations of a namespace: those of its last declaration
abbrev pub relations_of : List ℕ → List Declaration → Option (List Relation)
relations_of namespace [] = None
relations_of namespace (d ∷ ds) = option_or (relations_of namespace ds) (if bytes_eq namespace d.name then Some d.relations else None)

-- how many that are
abbrev pub relation_count : List ℕ → List Declaration → ℕ
relation_count namespace ds = length (unwrap_or (relations_of namespace ds) [])

-- what is declared of a relation by the last declaration of its namespace
abbrev pub relation_of : List ℕ → List ℕ → List Declaration → Option Relation
relation_of namespace relation ds = option_and_then (relation_named relation) (relations_of namespace ds)

-- ---- at a timestamp

-- what a declaration says of a relation, where it is in force at a timestamp
abbrev pub in_force : ℕ → List ℕ → List ℕ → Declaration → Option Relation
in_force at namespace relation d = if nat_le d.at at then declared_in namespace relation d else None

-- what the last declaration that is in force at a timestamp, and has the relation, says of it
abbrev pub relation_at : List Declaration → ℕ → List ℕ → List ℕ → Option Relation
relation_at [] at namespace relation = None
relation_at (d ∷ ds) at namespace relation = option_or (relation_at ds at namespace relation) (in_force at namespace relation d)

abbrev pub as_rule : Relation → Rule
as_rule r = record { stratum = r.stratum; expression = r.expression }

-- the rules in force at a timestamp
abbrev pub rule_at : List Declaration → ℕ → List ℕ → List ℕ → Option Rule
rule_at ds at namespace relation = option_map as_rule (relation_at ds at namespace relation)

-- what the declaration of a number says of its relation of a number, both counted from 0
abbrev pub expression_in : RulePlace → List Declaration → Option Expression
expression_in place ds =
    option_map (λ r. r.expression)
    (option_and_then (λ rs. slice_get rs place.relation) (option_map (λ d. d.relations) (slice_get ds place.line)))

-- ---- by number, counted from 1

-- a name goes last, unless it is there
abbrev pub with_name : List (List ℕ) → List ℕ → List (List ℕ)
with_name names name = if list_any (bytes_eq name) names then names else names ++ name ∷ []

abbrev pub names_after : List (List ℕ) → List Declaration → List (List ℕ)
names_after names [] = names
names_after names (d ∷ ds) = names_after (with_name names d.name) ds

-- the names of the namespaces, in order of their first declarations
abbrev pub namespace_names : List Declaration → List (List ℕ)
namespace_names ds = names_after [] ds

abbrev pub relation_names : List Relation → List (List ℕ)
relation_names rs = map (λ r. r.name) rs

-- the item at a place that is counted from 1
abbrev pub item_at : {X : Type 0} → ℕ → List X → Option X
item_at n xs = if n == 0 then None else slice_get xs (n - 1)

-- the place of a name, counted from 1
abbrev pub place_of : List ℕ → List (List ℕ) → Option ℕ
place_of name names = option_map (λ i. i + 1) (position (bytes_eq name) names)

-- the name of the namespace that has this number
abbrev pub namespace_numbered : ℕ → List Declaration → Option (List ℕ)
namespace_numbered n ds = item_at n (namespace_names ds)

-- the relation that has this number
abbrev pub relation_numbered : RelNo → List Declaration → Option Relation
relation_numbered number ds =
    option_and_then (λ namespace. option_and_then (item_at number.relation) (relations_of namespace ds))
    (namespace_numbered number.namespace ds)

-- the number of a relation
abbrev pub number_of : List ℕ → List ℕ → List Declaration → Option RelNo
number_of namespace relation ds =
    option_and_then (λ n. option_map (λ r. record { namespace = n; relation = r })
    (option_and_then (λ rs. place_of relation (relation_names rs)) (relations_of namespace ds)))
    (place_of namespace (namespace_names ds))

-- what was declared of the relation that has this number, in order
abbrev pub history_numbered : RelNo → List Declaration → List Relation
history_numbered number ds =
    unwrap_or
    (option_and_then (λ namespace. option_map (λ r. history namespace r.name ds) (relation_numbered number ds)) (namespace_numbered number.namespace ds)) []
