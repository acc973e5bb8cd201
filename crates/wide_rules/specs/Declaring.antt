-- Which namespaces declare a relation that is read through a tupleset.
use Rattle.std.specs.Prelude.{◌≡◌, ◌<◌, ◌≤◌, ◌^◌, ℕ, suc, length, List, Contains, None, Some}
use Rattle.namespaces.specs.Declaration.{Declaration}
use Rattle.namespaces.specs.Lookup.{Lookup, namespace_names, namespace_numbered, rule_at}
use Rattle.namespaces.specs.Numbers.{Has}
use Rattle.namespaces.specs.declared.number_set.Numbers.{Numbers}

-- a namespace declares none of these relations
abbrev pub DeclaresNone : Lookup → List (List ℕ) → List ℕ → Type 0
DeclaresNone rules names namespace = (relation : List ℕ) → Contains names relation → rules namespace relation ≡ None

-- the numbers of all namespaces, of 256 at most, that declare one of these relations at some time, and maybe of others
pub record AreDeclaring (ds : List Declaration) (names : List (List ℕ)) (numbers : List ℕ) : Type 0 where
  pub few : length (namespace_names ds) ≤ 256
  pub all : (n at : ℕ) (namespace relation : List ℕ) → n < 256 → at < 2 ^ 64
      → namespace_numbered (suc n) ds ≡ Some namespace
      → Contains names relation → ¬ (rule_at ds at namespace relation ≡ None) → Contains numbers (suc n)

-- a set that has such numbers
abbrev pub HaveDeclaring : List Declaration → List (List ℕ) → Numbers → Type 0
HaveDeclaring ds names set = (numbers : List ℕ) × AreDeclaring ds names numbers
    × ((n : ℕ) → Contains numbers n → Has set n)
