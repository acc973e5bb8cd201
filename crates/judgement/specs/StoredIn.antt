-- Of which namespaces something is stored in a userset. No public clause of an audit cites this module.
use Rattle.std.specs.Prelude.{◌≡◌, ℕ, Some}
use Rattle.tuple_text.specs.Sets.{SetValue}
use Rattle.tuple_text.specs.declared.users.User.TheVariants.{Set}
use Rattle.namespaces.specs.Lookup.{namespace_names, place_of}
use Rattle.strata.specs.Meaning.{IsStored}
use Rattle.namespaces.specs.Numbers.{Has}
use Rattle.namespaces.specs.declared.number_set.Numbers.{Numbers}
use Rattle.snapshots.specs.Snapshots.{tuples_in}
use Rattle.snapshots.specs.declared.snapshot.Snapshot.{Snapshot}

-- the namespaces, by their numbers, of all usersets that are stored in `set`, and maybe others
abbrev pub HaveStored : Snapshot → SetValue → Numbers → Type 0
HaveStored s set numbers =
    (n : ℕ) (g : SetValue) → IsStored (tuples_in s) set (Set g)
    → place_of g.namespace (namespace_names s.timeline.declarations) ≡ Some n → Has numbers n
