-- What `add` makes of a JSON value: the shape first, over the whole value, and then each other test in its turn.
use Rattle.std.specs.Prelude.{ℕ, nat_le, nat_lt, not, ◌&&◌, ◌||◌, if◌then◌else◌, Bool, false, List, [], ◌∷◌, ◌++◌, length, codes, Option, Some, None, is_some, option_and_then, Result, Ok, Err}
use Rattle.std.specs.Str.{bytes_eq}
use Rattle.std.specs.List.{list_any, list_all}
use Rattle.serde_json.specs.Data.{Data, null, boolean, number, string, array, object, Items, no_items, item}
use Rattle.serde_json.specs.Find.{get, as_number, as_u64, as_array}
use Rattle.namespaces.specs.declared.fault.RulesFault.{RulesFault}
use Rattle.namespaces.specs.declared.fault.RulesFault.TheVariants.{Shape, Name, RepeatedNamespace, RepeatedRelation, UndeclaredRelation, TooDeep, TooMany}
use Rattle.namespaces.specs.Fault.{needed}
use Rattle.refusals.specs.Refusals.{◌>>=◌}
use Rattle.tuple_text.specs.Forms.{is_name}
use Rattle.rewrites.specs.Expression.{Expression, this, depth, names_in, own_relations, counts_fit}
use Rattle.namespaces.specs.Declaration.{Relation, Namespace, Declaration, addition}
use Rattle.namespaces.specs.Lookup.{relations_of, relation_names, namespace_names}
use Rattle.namespaces.specs.Shape.{text_at, expression}

-- ---- the shape

-- at an optional key, null is as good as absent
abbrev pub unless_null : Data → Option Data
unless_null null = None
unless_null (boolean b) = Some (boolean b)
unless_null (number n) = Some (number n)
unless_null (string s) = Some (string s)
unless_null (array ds) = Some (array ds)
unless_null (object ms) = Some (object ms)

abbrev pub optional : List ℕ → Data → Option Data
optional key d = option_and_then unless_null (get key d)

abbrev pub small : ℕ → Result ℕ RulesFault
small n = if nat_lt n 256 then Ok n else Err Shape

-- a stratum is 0 where none is given
abbrev pub stratum_or_0 : Option Data → Result ℕ RulesFault
stratum_or_0 None = Ok 0
stratum_or_0 (Some d) = needed (option_and_then as_u64 (as_number d)) >>= small

-- a rule is `this` where none is given
abbrev pub expression_or_this : Option Data → Result Expression RulesFault
expression_or_this None = Ok this
expression_or_this (Some d) = expression d

abbrev pub relation : Data → Result Relation RulesFault
relation d = do
  name ← text_at (codes "name") d
  stratum ← stratum_or_0 (optional (codes "stratum") d)
  rule ← expression_or_this (optional (codes "rewrite") d)
  Ok (record { name = name; stratum = stratum; expression = rule })

abbrev pub relations : Items → Result (List Relation) RulesFault
relations no_items = Ok []
relations (item d ds) = do
  r ← relation d
  rs ← relations ds
  Ok (r ∷ rs)

abbrev pub list_at : List ℕ → Data → Result Items RulesFault
list_at key d = needed (get key d) >>= λ e. needed (as_array e)

-- the namespace that a value has the shape of
abbrev pub namespace : Data → Result Namespace RulesFault
namespace d = do
  name ← text_at (codes "name") d
  rs ← list_at (codes "relations") d >>= relations
  Ok (record { name = name; relations = rs })

-- ---- the tests

-- the relation's own name is one, and so are those in its rule
abbrev pub is_well_named : Relation → Bool
is_well_named r = is_name r.name && list_all is_name (names_in r.expression)

-- some name stands in two places
abbrev pub has_repeats : List (List ℕ) → Bool
has_repeats [] = false
has_repeats (n ∷ ns) = list_any (bytes_eq n) ns || has_repeats ns

-- the rule reads no relation of its own namespace that the list lacks
abbrev pub reads_declared : List Relation → Relation → Bool
reads_declared rs r = list_all (λ q. list_any (λ e. bytes_eq q e.name) rs) (own_relations r.expression)

abbrev pub is_too_deep : Relation → Bool
is_too_deep r = nat_lt 32 (depth r.expression)

-- a count is outside its limit, where `full` says that there is no room for this declaration
unfoldable pub is_over_limits : Bool → List Relation → Bool
is_over_limits full rs = full || not (nat_le (length rs) 256) || not (list_all (λ r. counts_fit r.expression) rs)

-- the namespace, or the first of the faults that apply, by their numbers
unfoldable pub tested : Bool → Bool → Namespace → Result Namespace RulesFault
tested repeated full new =
    if not (is_name new.name && list_all is_well_named new.relations) then Err Name
    else (if repeated then Err RepeatedNamespace
    else (if has_repeats (relation_names new.relations) then Err RepeatedRelation
    else (if not (list_all (reads_declared new.relations) new.relations) then Err UndeclaredRelation
    else (if list_any is_too_deep new.relations then Err TooDeep
    else (if is_over_limits full new.relations then Err TooMany
    else Ok new)))))

abbrev pub is_declared : List ℕ → List Declaration → Bool
is_declared namespace ds = is_some (relations_of namespace ds)

-- no further namespace has room
abbrev pub is_full : List Declaration → Bool
is_full ds = not (nat_lt (length (namespace_names ds)) 256)

abbrev pub checked_addition : List Declaration → Namespace → Result Namespace RulesFault
checked_addition ds new = tested (is_declared new.name ds) (is_full ds) new

-- the namespace that `add` would declare, or why the value is refused
abbrev pub added : List Declaration → Data → Result Namespace RulesFault
added ds d = namespace d >>= checked_addition ds

-- the declarations after `add`
abbrev pub rules_add : List Declaration → Data → Result (List Declaration) RulesFault
rules_add ds d = added ds d >>= λ n. Ok (ds ++ addition n ∷ [])
