-- What an index finds: the touches that make a userset stored in another at a timestamp.
use Rattle.std.specs.Prelude.{◌≡◌, ◌≤◌, ◌<◌, ◌/◌, ◌^◌, ℕ, Bool, true, List, [], None, Some, slice_get, nat_eq, nat_lt, Contains}
use Rattle.std.specs.List.{IsDistinct}
use Rattle.tuple_text.specs.Sets.{SetValue}
use Rattle.tuple_text.specs.Tuples.{tuple_of}
use Rattle.tuple_text.specs.declared.users.User.TheVariants.{Set}
use Rattle.namespaces.specs.Declaration.{Declaration}
use Rattle.namespaces.specs.Lookup.{rule_at, rule_of, place_of, namespace_names}
use Rattle.version_chains.specs.Commits.{Commit, Touch, changelog}
use Rattle.marks.specs.Marks.{pair_mark, set_mark}
use Rattle.marks.specs.Placed.{passes}
use Rattle.userset_index.specs.Lives.{is_alive}
use Rattle.namespaces.specs.Numbers.{Has}
use Rattle.userset_index.specs.declared.life.Life.{Life}
use Rattle.userset_index.specs.declared.life.Way.{Way}
use Rattle.namespaces.specs.declared.number_set.Numbers.{Numbers}
use Rattle.userset_index.specs.declared.life.Way.TheVariants.{Own, Object}

-- what a contract sees of an index: whether it holds of the changelog and the rules; the counts by which usersets are
-- crowded; the lives by the mark of the userset that is stored in; those by that and a namespace, where one of an
-- object is enough at a time; and those by that and an object. And whether the moments hold of them: lives by the
-- mark of the userset that is stored in, at whose places stand the namespaces of which something is stored there
-- while they last
pub record IndexValue : Type 0 where
  pub is_whole : Bool
  pub crowds : List ℕ
  pub own : List Life
  pub through : List Life
  pub objects : List Life
  pub is_timed : Bool
  pub moments : List Life
  pub numbers : List Numbers
  -- whether it grows with a log; and of how many declarations it is then, and where the lives of each touch stand
  pub is_growing : Bool
  pub declared : ℕ
  pub own_places : List ℕ
  pub through_places : List ℕ
  pub object_places : List ℕ

-- at how many touches a userset is no longer passed over one by one
abbrev pub few : ℕ
few = 16

-- which count is that of a userset with this mark
abbrev pub count_of : ℕ → ℕ
count_of mark = mark / 2 ^ 48

-- whether a userset with this mark has many usersets, or shares its count with one that has
abbrev pub is_crowded : List ℕ → ℕ → Bool
is_crowded crowds mark = passes (nat_lt few) (slice_get crowds (count_of mark))

-- the touch at an index adds its tuple, and is the last of that tuple up to a timestamp
pub record IsLastTouch (touches : List Touch) (at i : ℕ) (x : Touch) : Type 0 where
  pub here : slice_get touches i ≡ Some x
  pub until : x.at ≤ at
  pub adds : x.live ≡ true
  pub last : (j : ℕ) (y : Touch) → i < j → slice_get touches j ≡ Some y → y.tuple ≡ x.tuple → at < y.at

-- at each timestamp of a life its touch is the last of its tuple
abbrev pub IsTimely : List Touch → Life → Type 0
IsTimely touches l = (at : ℕ) → is_alive at l ≡ true → (x : Touch) × IsLastTouch touches at l.touch x

abbrev pub AreTimely : List Touch → List Life → Type 0
AreTimely touches lives = (l : Life) → Contains lives l → IsTimely touches l

abbrev pub is_of_same : Life → Life → Bool
is_of_same k l = nat_eq k.touch l.touch

-- no touch has two lives
abbrev pub AreOnce : List Life → Type 0
AreOnce lives = IsDistinct is_of_same lives

-- what is found at a timestamp is stored then, and found once
pub record AreExact (touches : List Touch) (lives : List Life) : Type 0 where
  pub timely : AreTimely touches lives
  pub once : AreOnce lives

-- one of the lives with the mark is of the touch and holds the timestamp
pub record IsFound (lives : List Life) (mark at touch : ℕ) : Type 0 where
  pub life : Life
  pub there : Contains lives life
  pub marked : life.mark ≡ mark
  pub of : life.touch ≡ touch
  pub alive : is_alive at life ≡ true

abbrev pub IsDeclaredAt : List Declaration → ℕ → SetValue → Type 0
IsDeclaredAt ds at g = ¬ (rule_of (rule_at ds at) g ≡ None)

-- the mark of a userset and of the object of another
abbrev pub object_mark : SetValue → SetValue → ℕ
object_mark s g = pair_mark (set_mark s) (set_mark (record g { relation = [] }))

-- a mark by which a userset g that is stored in another, s, is looked for at a timestamp: for its own members, where
-- it is declared then; or by its object
abbrev pub IsMark : List Declaration → Way → SetValue → SetValue → ℕ → ℕ → Type 0
IsMark ds Own s g at mark = (mark ≡ set_mark s) × IsDeclaredAt ds at g
IsMark ds Object s g at mark = mark ≡ object_mark s g

-- each touch that makes a userset stored in a crowded one at a timestamp is found by such a mark
abbrev pub Holds : List Declaration → Way → List Touch → List ℕ → List Life → Type 0
Holds ds way touches crowds lives =
    (i at mark : ℕ) (x : Touch) (g : SetValue) → IsLastTouch touches at i x → x.tuple.user ≡ Set g
    → is_crowded crowds (set_mark x.tuple.set) ≡ true → at < 2 ^ 64 → IsMark ds way x.tuple.set g at mark
    → IsFound lives mark at i

-- one of the lives with the mark holds the timestamp, and its touch makes a userset of the object of g stored in s then
pub record IsFoundThrough (touches : List Touch) (lives : List Life) (mark at : ℕ) (s g : SetValue) : Type 0 where
  pub touch : ℕ
  pub is : Touch
  pub of : SetValue
  pub last : IsLastTouch touches at touch is
  pub stored : is.tuple ≡ tuple_of s (Set of)
  pub one_namespace : of.namespace ≡ g.namespace
  pub one_id : of.id ≡ g.id
  pub found : IsFound lives mark at touch

-- for each userset that is stored in a crowded one at a timestamp, one of its object that is stored there then is found
-- by the number of its namespace
abbrev pub HoldsThrough : List Declaration → List Touch → List ℕ → List Life → Type 0
HoldsThrough ds touches crowds lives =
    (i at n : ℕ) (x : Touch) (g : SetValue) → IsLastTouch touches at i x → x.tuple.user ≡ Set g
    → is_crowded crowds (set_mark x.tuple.set) ≡ true → at < 2 ^ 64
    → place_of g.namespace (namespace_names ds) ≡ Some n
    → IsFoundThrough touches lives (pair_mark (set_mark x.tuple.set) n) at x.tuple.set g

-- one of the lives with a mark holds a timestamp, and what stands at its place has a number
pub record IsCovered (lives : List Life) (numbers : List Numbers) (mark n t : ℕ) : Type 0 where
  pub life : Life
  pub set : Numbers
  pub there : Contains lives life
  pub marked : life.mark ≡ mark
  pub alive : is_alive t life ≡ true
  pub here : slice_get numbers life.touch ≡ Some set
  pub has : Has set n

-- each userset that is stored in another at a timestamp is of a namespace that the moment there has
abbrev pub HaveMoments : List Declaration → List Touch → List Life → List Numbers → Type 0
HaveMoments ds touches lives numbers =
    (i at n : ℕ) (x : Touch) (g : SetValue) → IsLastTouch touches at i x → x.tuple.user ≡ Set g → at < 2 ^ 64
    → place_of g.namespace (namespace_names ds) ≡ Some n → IsCovered lives numbers (set_mark x.tuple.set) n at

pub record IsWhole (ds : List Declaration) (commits : List Commit) (v : IndexValue) : Type 0 where
  pub own : Holds ds Own (changelog commits) v.crowds v.own
  pub own_exact : AreExact (changelog commits) v.own
  pub through : HoldsThrough ds (changelog commits) v.crowds v.through
  pub through_exact : AreExact (changelog commits) v.through
  pub objects : Holds ds Object (changelog commits) v.crowds v.objects
  pub timed : v.is_timed ≡ true → HaveMoments ds (changelog commits) v.moments v.numbers

-- an index of these declarations and commits, unless there is none
abbrev pub IsUsersetIndex : List Declaration → List Commit → IndexValue → Type 0
IsUsersetIndex ds commits v = v.is_whole ≡ true → IsWhole ds commits v

-- each userset that is stored in `s` at a timestamp is of a namespace among these
abbrev pub AreNamespaces : IndexValue → SetValue → ℕ → Numbers → Type 0
AreNamespaces v s at numbers =
    (ds : List Declaration) (commits : List Commit) (i n : ℕ) (x : Touch) (g : SetValue) → IsUsersetIndex ds commits v
    → IsLastTouch (changelog commits) at i x → x.tuple.set ≡ s → x.tuple.user ≡ Set g → at < 2 ^ 64
    → place_of g.namespace (namespace_names ds) ≡ Some n → Has numbers n
