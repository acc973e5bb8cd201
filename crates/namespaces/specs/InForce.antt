-- Which relations are declared at a timestamp.
use Rattle.std.specs.Prelude.{◌≡◌, ◌↔◌, ◌<◌, ℕ, List, [], Option, None, Some, unwrap_or}
use Rattle.tuple_text.specs.Sets.{SetValue}
use Rattle.namespaces.specs.Declaration.{Declaration}
use Rattle.namespaces.specs.Index.{relations_at}
use Rattle.namespaces.specs.Lookup.{relation_names, rule_at, rule_of}

-- the names of those of a namespace, in order of declaration: those of its last declaration in force by then
abbrev pub names_in_force : ℕ → List ℕ → List Declaration → List (List ℕ)
names_in_force at namespace ds = relation_names (unwrap_or (relations_at at namespace ds) [])

-- a relation is declared from a timestamp on, or never
abbrev pub IsDeclaredFrom : Option ℕ → SetValue → List Declaration → Type 0
IsDeclaredFrom None g ds = (at : ℕ) → rule_of (rule_at ds at) g ≡ None
IsDeclaredFrom (Some from) g ds = (at : ℕ) → (rule_of (rule_at ds at) g ≡ None) ↔ (at < from)
