-- An index that grows with a log.
use Rattle.std.specs.Prelude.{◌≡◌, ◌≤◌, ◌<◌, ◌+◌, ◌^◌, ◌⊎◌, ℕ, suc, true, false, take, List, Option, Some, length, slice_get, Contains}
use Rattle.tuple_text.specs.Sets.{SetValue}
use Rattle.tuple_text.specs.declared.users.User.TheVariants.{Set}
use Rattle.namespaces.specs.Declaration.{Declaration}
use Rattle.namespaces.specs.Lookup.{namespace_names, place_of}
use Rattle.version_chains.specs.Commits.{Commit, Touch, changelog}
use Rattle.marks.specs.Marks.{pair_mark, set_mark}
use Rattle.userset_index.specs.Building.{AreOfFirst, kept}
use Rattle.userset_index.specs.Index.{AreOnce, AreTimely, IndexValue, IsFound, IsLastTouch, IsMark}
use Rattle.userset_index.specs.Lives.{is_alive, shortened}
use Rattle.userset_index.specs.declared.life.Life.{Life}
use Rattle.userset_index.specs.declared.life.Way.TheVariants.{Object, Own}

-- which marks a userset that is stored in another is looked for by at a timestamp
abbrev pub Marking : Type 1
Marking = SetValue → SetValue → ℕ → ℕ → Type 0

-- the number of its namespace, through the other one
abbrev pub IsMarkThrough : List Declaration → Marking
IsMarkThrough ds s g at mark =
    (n : ℕ) × (place_of g.namespace (namespace_names ds) ≡ Some n) × (mark ≡ pair_mark (set_mark s) n)

-- each touch that makes a userset stored in another at a timestamp is found by such a mark
abbrev pub Finds : Marking → List Touch → List Life → Type 0
Finds IsBy touches lives =
    (i at mark : ℕ) (x : Touch) (g : SetValue) → IsLastTouch touches at i x → x.tuple.user ≡ Set g → at < 2 ^ 64
    → IsBy x.tuple.set g at mark → IsFound lives mark at i

-- the life of a touch holds each timestamp from the touch on at which it is looked for
abbrev pub IsLifeBy : Marking → ℕ → Touch → Option Life → Type 0
IsLifeBy IsBy i x life =
    (at mark : ℕ) (g : SetValue) → x.live ≡ true → x.tuple.user ≡ Set g → at < 2 ^ 64 → x.at ≤ at
    → IsBy x.tuple.set g at mark
    → (l : Life) × (life ≡ Some l) × (l.mark ≡ mark) × (l.touch ≡ i) × (is_alive at l ≡ true)

-- the life of a touch stands at the place that is noted for it, where one is
pub record ArePlaced (lives : List Life) (places : List ℕ) : Type 0 where
  pub here : (i : ℕ) (l : Life) → slice_get lives i ≡ Some l → slice_get places l.touch ≡ Some (suc i)
  pub there : (t i : ℕ) → slice_get places t ≡ Some (suc i) → (l : Life) × (slice_get lives i ≡ Some l) × (l.touch ≡ t)

-- the lives of the touch before a place end at a timestamp at the latest, and the others stay
pub record IsClosed (older until : ℕ) (old new : List Life) : Type 0 where
  pub others : (l : Life) → Contains old l → ¬ (suc l.touch ≡ older) → Contains new l
  pub own : (l : Life) → Contains old l → suc l.touch ≡ older → Contains new (shortened until l)
  pub only : (m : Life) → Contains new m → (Contains old m × ¬ (suc m.touch ≡ older))
      ⊎ ((l : Life) × Contains old l × (suc l.touch ≡ older) × (m ≡ shortened until l))
  pub once : AreOnce old → AreOnce new

-- one touch more: those of the touch before it of the same tuple end, and its own life comes, where it has one
pub record Takes (older until : ℕ) (life : Option Life) (old new : List Life) (old_places new_places : List ℕ) : Type 0 where
  pub closed : List Life
  pub ends : IsClosed older until old closed
  pub is : new ≡ kept closed life
  pub placed : ArePlaced new new_places
  pub counted : length new_places ≡ length old_places + 1

-- the lives of all touches, by such marks
pub record AreLivesOf (IsBy : Marking) (touches : List Touch) (lives : List Life) (places : List ℕ) : Type 0 where
  pub finds : Finds IsBy touches lives
  pub timely : AreTimely touches lives
  pub first : AreOfFirst (length touches) lives
  pub placed : ArePlaced lives places
  pub counted : length places ≡ length touches

pub record IsGrownTo (ds : List Declaration) (touches : List Touch) (v : IndexValue) : Type 0 where
  pub own : AreLivesOf (IsMark ds Own) touches v.own v.own_places
  pub through : AreLivesOf (IsMarkThrough ds) touches v.through v.through_places
  pub objects : AreLivesOf (IsMark ds Object) touches v.objects v.object_places

-- of the touches of a log that were taken
abbrev pub taken_of : List Touch → IndexValue → List Touch
taken_of touches v = take (length v.own_places) touches

-- touches change neither whether it grows, nor whether moments were noted, nor of how many declarations it is
pub record IsSameKind (old new : IndexValue) : Type 0 where
  pub growing : new.is_growing ≡ old.is_growing
  pub timed : new.is_timed ≡ old.is_timed
  pub declared : new.declared ≡ old.declared

-- of all declarations and of the first touches of a log
pub record IsReady (ds : List Declaration) (touches : List Touch) (v : IndexValue) : Type 0 where
  pub declared : v.declared ≡ length ds
  pub few : length v.own_places ≤ length touches
  pub grown : IsGrownTo ds (taken_of touches v) v
  pub untimed : v.is_timed ≡ false

-- of the first declarations and touches of a log, so many as it says
pub record IsBegun (ds : List Declaration) (touches : List Touch) (v : IndexValue) : Type 0 where
  pub few_rules : v.declared ≤ length ds
  pub few : length v.own_places ≤ length touches
  pub grown : IsGrownTo (take v.declared ds) (taken_of touches v) v
  pub untimed : v.is_timed ≡ false

-- where it grows, it is an index of a log so far
abbrev pub IsGrowing : List Declaration → List Commit → IndexValue → Type 0
IsGrowing ds commits v = v.is_growing ≡ true → IsBegun ds (changelog commits) v
