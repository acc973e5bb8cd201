-- What the pass leaves that finds of which namespaces usersets are stored in a userset. No public clause cites this
-- module.
use Rattle.std.specs.Prelude.{◌≡◌, ◌≤◌, ◌<◌, ◌^◌, ◌%◌, ◌⊎◌, ℕ, true, List, Option, Some, slice_get, Contains}
use Rattle.tuple_text.specs.Sets.{SetValue}
use Rattle.tuple_text.specs.declared.users.User.TheVariants.{Set}
use Rattle.namespaces.specs.Declaration.{Declaration}
use Rattle.namespaces.specs.Lookup.{namespace_names, place_of}
use Rattle.version_chains.specs.Commits.{Touch}
use Rattle.marks.specs.Marks.{set_mark}
use Rattle.userset_index.specs.Index.{IsCovered, IsLastTouch}
use Rattle.namespaces.specs.Numbers.{Has}
use Rattle.userset_index.specs.declared.moments.Stay.{Stay}
use Rattle.userset_index.specs.declared.moments.Sweep.{Sweep}
use Rattle.namespaces.specs.declared.number_set.Numbers.{Numbers}

-- the stay of a touch, where it has one
abbrev pub IsStayOf : List Declaration → Touch → ℕ → Option Stay → Type 0
IsStayOf ds x end stay =
    (n : ℕ) (g : SetValue) → x.live ≡ true → x.tuple.user ≡ Set g → place_of g.namespace (namespace_names ds) ≡ Some n
    → (s : Stay) × (stay ≡ Some s) × (s.mark ≡ set_mark x.tuple.set) × (s.number ≡ n) × (s.from ≡ x.at) × (s.until ≡ end)

-- one of the stays with a mark is of a number and holds a timestamp
pub record IsStaying (stays : List Stay) (mark n t : ℕ) : Type 0 where
  pub stay : Stay
  pub there : Contains stays stay
  pub marked : stay.mark ≡ mark
  pub of : stay.number ≡ n
  pub since : stay.from ≤ t
  pub until : t ≤ stay.until

-- the touches among the first so many are found
abbrev pub HoldsStaysFirst : ℕ → List Declaration → List Touch → List Stay → Type 0
HoldsStaysFirst m ds touches stays =
    (i at n : ℕ) (x : Touch) (g : SetValue) → i < m → IsLastTouch touches at i x → x.tuple.user ≡ Set g → at < 2 ^ 64
    → place_of g.namespace (namespace_names ds) ≡ Some n → IsStaying stays (set_mark x.tuple.set) n at

abbrev pub HoldsStays : List Declaration → List Touch → List Stay → Type 0
HoldsStays ds touches stays =
    (i at n : ℕ) (x : Touch) (g : SetValue) → IsLastTouch touches at i x → x.tuple.user ≡ Set g → at < 2 ^ 64
    → place_of g.namespace (namespace_names ds) ≡ Some n → IsStaying stays (set_mark x.tuple.set) n at

-- in the slot of a number stands this timestamp or a later one
abbrev pub AtLeast : List ℕ → ℕ → ℕ → Type 0
AtLeast untils n u = (v : ℕ) × (slice_get untils (n % 256) ≡ Some v) × (u ≤ v)

-- at each of its timestamps a stay is covered, or what lasts on has it
abbrev pub IsHeld : Sweep → Stay → Type 0
IsHeld w s =
    (t : ℕ) → t < 2 ^ 64 → s.from ≤ t → t ≤ s.until → IsCovered w.lives.items w.numbers.items s.mark s.number t
    ⊎ ((s.mark ≡ w.mark) × (w.from ≤ t) × Has w.open s.number × AtLeast w.untils.items s.number s.until)

-- or it lasts beyond a timestamp at which nothing has begun yet
abbrev pub Awaits : Sweep → ℕ → Stay → Type 0
Awaits w at s =
    (t : ℕ) → t < 2 ^ 64 → s.from ≤ t → t ≤ s.until → IsCovered w.lives.items w.numbers.items s.mark s.number t
    ⊎ ((s.mark ≡ w.mark) × (at ≤ t) × AtLeast w.untils.items s.number s.until)

-- what stands at a place is among some
abbrev pub IsGiven : List Numbers → Numbers → ℕ → Type 0
IsGiven numbers r m = (s : Numbers) (n : ℕ) → slice_get numbers m ≡ Some s → Has s n → Has r n
