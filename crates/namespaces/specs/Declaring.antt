-- Which namespaces declare a relation of a name.
use Rattle.std.specs.Prelude.{◌≡◌, ◌↔◌, ◌<◌, ℕ, suc, Bool, true, List, unwrap_or, is_some, option_and_then, String}
use Rattle.std.specs.declared.alloc.Global.{Global}
use Rattle.names.specs.Names.{value_of}
use Rattle.namespaces.specs.Declaration.{Declaration}
use Rattle.namespaces.specs.Lookup.{namespace_numbered, relation_of}
use Rattle.namespaces.specs.Numbers.{Has}
use Rattle.namespaces.specs.declared.number_set.Numbers.{Numbers}

-- the namespace of a number declares a relation of a name, by its last declaration: none goes once it is declared
abbrev pub declares : ℕ → List ℕ → List Declaration → Bool
declares n relation ds = is_some (option_and_then (λ namespace. relation_of namespace relation ds) (namespace_numbered n ds))

-- these are the numbers of the namespaces, of 256 at most, that declare a relation of a name
abbrev pub AreDeclarers : Numbers → List ℕ → List Declaration → Type 0
AreDeclarers numbers relation ds = (n : ℕ) → n < 256 → Has numbers (suc n) ↔ (declares (suc n) relation ds ≡ true)

-- ---- in a table of names

-- the numbers that are kept under a name
abbrev pub numbers_under : List (String Global × Numbers) → List ℕ → Numbers
numbers_under es q = unwrap_or (value_of q es) (record { low = 0; high = 0 })

abbrev pub HasUnder : List (String Global × Numbers) → List ℕ → ℕ → Type 0
HasUnder es q n = Has (numbers_under es q) n

-- under each name the same numbers are kept
abbrev pub SameUnder : List (String Global × Numbers) → List (String Global × Numbers) → Type 0
SameUnder es fs = (q : List ℕ) (n : ℕ) → HasUnder fs q n ↔ HasUnder es q n

-- under each name are the numbers of those that declare it
abbrev pub AreAllDeclarers : List (String Global × Numbers) → List Declaration → Type 0
AreAllDeclarers es ds = (q : List ℕ) → AreDeclarers (numbers_under es q) q ds
