-- What two passes over the stored usersets conclude.
use Rattle.std.specs.Prelude.{ℕ, Bool, List, Contains}
use Rattle.std.specs.List.{list_any}
use Rattle.tuple_text.specs.Sets.{SetValue, set_eq}
use Rattle.tuple_text.specs.Tuples.{tuple_of}
use Rattle.tuple_text.specs.declared.users.User.TheVariants.{Set}
use Rattle.version_chains.specs.Commits.{Commit, store_at}

-- every userset that is stored in the set is among these
abbrev pub EveryStoredSetIsAmong : List SetValue → List Commit → ℕ → SetValue → Type 0
EveryStoredSetIsAmong these commits s o = (g : SetValue) → Contains (store_at commits s) (tuple_of o (Set g)) → Contains these g

-- some userset that is stored in the set is among these
abbrev pub SomeStoredSetIsAmong : List SetValue → List Commit → ℕ → SetValue → Type 0
SomeStoredSetIsAmong these commits s o = (g : SetValue) × Contains (store_at commits s) (tuple_of o (Set g)) × Contains these g

-- whether a userset is among these
abbrev pub is_among : List SetValue → SetValue → Bool
is_among these g = list_any (set_eq g) these
