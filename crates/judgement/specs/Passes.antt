-- What a pass over the stored usersets of a userset finds. No public clause cites this module.
use Rattle.std.specs.Prelude.{◌≡◌, ℕ, List, ◌∷◌, [], length, slice_get, Option, None, Some, ◌⊎◌, true, Contains, All}
use Rattle.tuple_text.specs.Sets.{SetValue}
use Rattle.tuple_text.specs.Tuples.{TupleValue, fact_of, tuple_of}
use Rattle.tuple_text.specs.declared.users.User.TheVariants.{Set}
use Rattle.namespaces.specs.Lookup.{Lookup, namespace_numbered}
use Rattle.strata.specs.Meaning.{IsStored}
use Rattle.version_chains.specs.Commits.{Touch, changelog}
use Rattle.marks.specs.Marks.{pair_mark, set_mark}
use Rattle.userset_index.specs.Index.{IndexValue, IsWhole, is_crowded}
use Rattle.userset_index.specs.Lives.{touches_alive}
use Rattle.userset_index.specs.declared.life.Life.{Life}
pub use Rattle.snapshots.specs.Leading.{target}
use Rattle.snapshots.specs.Snapshots.{rules_in, tuples_in}
use Rattle.snapshots.specs.declared.snapshot.Snapshot.{Snapshot}
use Rattle.judgement.specs.Judgement.{KnownValue, IsOut}

-- this is a whole index of the usersets that are stored, by which `set` is crowded
pub record IsCrowd (s : Snapshot) (set : SetValue) (index : IndexValue) : Type 0 where
  pub whole : IsWhole s.timeline.declarations s.timeline.commits index
  pub crowded : is_crowded index.crowds (set_mark set) ≡ true

-- a userset whose target is known to hold the user id
abbrev pub GivesId : KnownValue → Option (List ℕ) → ℕ → SetValue → Type 0
GivesId known relation id g = Contains known.yes (fact_of (target g relation) id)

-- a userset whose target does not hold the user id
abbrev pub BarsId : Lookup → KnownValue → Option (List ℕ) → ℕ → SetValue → Type 0
BarsId rules known relation id g = IsOut rules known (fact_of (target g relation) id)

abbrev pub SomeSet : (SetValue → Type 0) → List SetValue → Type 0
SomeSet P [] = ⊥
SomeSet P (g ∷ gs) = P g ⊎ SomeSet P gs

abbrev pub EachSet : (SetValue → Type 0) → List SetValue → Type 0
EachSet P [] = Unit {0}
EachSet P (g ∷ gs) = P g × EachSet P gs

-- some userset that is stored in `set` has a target that is known to hold the user id
abbrev pub IsLed : List TupleValue → KnownValue → SetValue → Option (List ℕ) → ℕ → Type 0
IsLed store known set relation id =
    (g : SetValue) × IsStored store set (Set g) × Contains known.yes (fact_of (target g relation) id)

-- no userset that is stored in `set` has a target that may hold the user id
abbrev pub IsBarred : Lookup → List TupleValue → KnownValue → SetValue → Option (List ℕ) → ℕ → Type 0
IsBarred rules store known set relation id =
    (g : SetValue) → IsStored store set (Set g) → IsOut rules known (fact_of (target g relation) id)

-- a userset whose object does not hold the user id under any of these relations
abbrev pub BarsNames : Lookup → KnownValue → List (List ℕ) → ℕ → SetValue → Type 0
BarsNames rules known names id g = (c : List ℕ) → Contains names c → BarsId rules known (Some c) id g

-- some userset that is stored in `set` has a target under one of these relations that is known to hold the user id
abbrev pub IsLedByName : List TupleValue → KnownValue → SetValue → List (List ℕ) → ℕ → Type 0
IsLedByName store known set names id = (c : List ℕ) × Contains names c × IsLed store known set (Some c) id

-- none has one that may hold it
abbrev pub AreBarred : Lookup → List TupleValue → KnownValue → SetValue → List (List ℕ) → ℕ → Type 0
AreBarred rules store known set names id = (c : List ℕ) → Contains names c → IsBarred rules store known set (Some c) id

-- some userset that is stored in `set` has this target
abbrev pub IsTargetStored : List TupleValue → SetValue → Option (List ℕ) → SetValue → Type 0
IsTargetStored store set relation t = (g : SetValue) × IsStored store set (Set g) × (target g relation ≡ t)

abbrev pub AreOfOneObject : SetValue → SetValue → Type 0
AreOfOneObject g h = (g.namespace ≡ h.namespace) × (g.id ≡ h.id)

-- some userset that is stored in `set` is of the object of another
abbrev pub IsObjectStored : List TupleValue → SetValue → SetValue → Type 0
IsObjectStored store set other = (g : SetValue) × IsStored store set (Set g) × AreOfOneObject g other

-- the touch at an index is not of a userset of that object that is stored in `set`
abbrev pub IsTouchApart : Snapshot → SetValue → SetValue → ℕ → Type 0
IsTouchApart s set other touch =
    (x : Touch) (g : SetValue) → slice_get (changelog s.timeline.commits) touch ≡ Some x
    → x.tuple ≡ tuple_of set (Set g)
    → IsStored (tuples_in s) set (Set g) → ¬ AreOfOneObject g other

-- the touch at an index is not of a userset that is stored in `set` and has a target that may hold the user id
abbrev pub IsTouchOut : Snapshot → KnownValue → SetValue → Option (List ℕ) → ℕ → ℕ → Type 0
IsTouchOut s known set relation id touch =
    (x : Touch) (g : SetValue) → slice_get (changelog s.timeline.commits) touch ≡ Some x
    → x.tuple ≡ tuple_of set (Set g)
    → IsStored (tuples_in s) set (Set g) → IsOut (rules_in s) known (fact_of (target g relation) id)

-- nor is any touch that is found by the number of a namespace in which the relation is declared
abbrev pub AreThroughOut : Snapshot → List Life → KnownValue → SetValue → List ℕ → ℕ → ℕ → Type 0
AreThroughOut s lives known set relation id n =
    (namespace : List ℕ) → namespace_numbered n s.timeline.declarations ≡ Some namespace
    → ¬ (rules_in s namespace relation ≡ None)
    → All (IsTouchOut s known set (Some relation) id)
    (touches_alive (pair_mark (set_mark set) n) s.at lives (length lives))
