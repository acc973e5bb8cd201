-- What the arena of tuples and touches holds, and how it is linked. No public clause cites this module.
use Rattle.std.specs.Prelude.{◌≡◌, ℕ, ◌-◌, ◌<◌, ◌≤◌, List, [], ◌++◌, map, length, slice_get, Some, nat_eq, unwrap_or}
use Rattle.tuple_text.specs.Sets.{SetValue}
use Rattle.tuple_text.specs.Tuples.{TupleValue}
use Rattle.tuple_text.specs.declared.users.User.TheVariants.{Id}
use Rattle.version_chains.specs.Commits.{Touch}
use Rattle.version_chains.specs.Jumps.{AreJumps}
use Rattle.marks.specs.Marks.{held_mark, tuple_mark}
use Rattle.marks.specs.Placed.{last_place, most}
use Rattle.version_chains.specs.declared.node.Node.{Node}
use Rattle.version_chains.specs.Rows.{Kept}

-- the tuples, each once, in the order in which they were first named; the touches, in order; and how many more touches
-- there is room for
pub record Held : Type 0 where
  pub tuples : List TupleValue
  pub touches : List Touch
  pub room : ℕ

-- how many more there is room for: what the capacity leaves of it, as far as places go
abbrev pub room_of : ℕ → ℕ → ℕ
room_of capacity count = capacity - (capacity - most) - count

-- a tuple for the look-up that never happens, past the end
abbrev pub nobody : TupleValue
nobody = record { set = record { namespace = []; id = []; relation = [] }; user = Id 0 }

abbrev pub touch_of : List TupleValue → Node → Touch
touch_of tuples n = record { at = n.at; live = n.live; tuple = unwrap_or (slice_get tuples n.tuple) nobody }

-- the tuples that are kept, and the places of their newest touches
abbrev pub tuples_of : List Kept → List TupleValue
tuples_of rows = map (λ r. r.tuple) rows

abbrev pub latest_of : List Kept → List ℕ
latest_of rows = map (λ r. r.latest) rows

-- the tuple of a number
abbrev pub IsNumber : List TupleValue → TupleValue → ℕ → Type 0
IsNumber tuples t n = slice_get tuples n ≡ Some t

-- the tuple of a number, if there is one, is of the userset
abbrev pub IsOfSet : List TupleValue → SetValue → ℕ → Type 0
IsOfSet tuples g n = (t : TupleValue) → IsNumber tuples t n → t.set ≡ g

-- no tuple stands at two places
abbrev pub AreApartAt : List TupleValue → Type 0
AreApartAt tuples = (i j : ℕ) (t : TupleValue) → slice_get tuples i ≡ Some t → slice_get tuples j ≡ Some t → i ≡ j

-- these are the numbers of the tuples: their places in a list, from 0
abbrev pub AreNumbersOf : List TupleValue → List ℕ → List TupleValue → Type 0
AreNumbersOf tuples numbers ts = map (slice_get tuples) numbers ≡ map Some ts

-- these are the numbers of tuples, the first `adds` of which are one part
abbrev pub AreNumbersOfParts : List TupleValue → ℕ → List ℕ → Type 0
AreNumbersOfParts tuples adds numbers =
    (added : List TupleValue) × (removed : List TupleValue) × (length added ≡ adds) × AreNumbersOf tuples numbers (added ++ removed)

-- no touch is after a timestamp
abbrev pub AreUpTo : ℕ → List Touch → Type 0
AreUpTo at touches = (i : ℕ) (x : Touch) → slice_get touches i ≡ Some x → x.at ≤ at

-- what stands in one list stands at the same places of the other
abbrev pub Extends : List TupleValue → List TupleValue → Type 0
Extends old new = (i : ℕ) (t : TupleValue) → slice_get old i ≡ Some t → slice_get new i ≡ Some t

-- each tuple is found by its mark, and by that of its userset and the kind of its user; each touch is one of a tuple
-- that is there, and is linked to the touch of the same tuple before it, and jumps to one; timestamps do not fall;
-- and each tuple is linked to its newest touch
pub record IsLinked (tuples : List TupleValue) (latest named held : List ℕ) (nodes : List Node) : Type 0 where
  pub apart : AreApartAt tuples
  pub names : named ≡ map tuple_mark tuples
  pub sets : held ≡ map held_mark tuples
  pub known : (i : ℕ) (n : Node) → slice_get nodes i ≡ Some n → n.tuple < length tuples
  pub earlier : (i : ℕ) (n : Node) → slice_get nodes i ≡ Some n → n.older ≡ last_place (λ m. nat_eq n.tuple m.tuple) nodes i
  pub counted : length latest ≡ length tuples
  pub jumps : AreJumps nodes
  pub rising : (i j : ℕ) (n m : Node) → i ≤ j → slice_get nodes i ≡ Some n → slice_get nodes j ≡ Some m → n.at ≤ m.at
  pub newest : (k p : ℕ) → slice_get latest k ≡ Some p → p ≡ last_place (λ m. nat_eq k m.tuple) nodes (length nodes)
