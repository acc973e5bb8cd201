-- What the passes leave that make an index. No public clause cites this module.
use Rattle.std.specs.Prelude.{◌≡◌, ◌≤◌, ◌<◌, ◌^◌, ℕ, true, List, [], ◌∷◌, ◌++◌, Option, None, Some, length, slice_get, Contains}
use Rattle.tuple_text.specs.Sets.{SetValue}
use Rattle.tuple_text.specs.declared.users.User.TheVariants.{Set}
use Rattle.namespaces.specs.Declaration.{Declaration}
use Rattle.version_chains.specs.Commits.{Touch}
use Rattle.marks.specs.Marks.{set_mark}
use Rattle.userset_index.specs.Index.{AreExact, AreOnce, Holds, HoldsThrough, IsFound, IsLastTouch, IsMark, is_crowded}
use Rattle.userset_index.specs.Lives.{is_alive}
use Rattle.userset_index.specs.declared.life.Life.{Life}
use Rattle.userset_index.specs.declared.life.Way.{Way}
use Rattle.userset_index.specs.declared.life.Way.TheVariants.{Own, Object}

-- behind this timestamp the touch is no longer the last of its tuple
abbrev pub IsEnd : List Touch → ℕ → Touch → ℕ → Type 0
IsEnd touches i x end =
    (at : ℕ) → end < at → at < 2 ^ 64
    → (j : ℕ) × (y : Touch) × (i < j) × (slice_get touches j ≡ Some y) × (y.tuple ≡ x.tuple) × (y.at ≤ at)

abbrev pub HaveEnds : List Touch → List ℕ → Type 0
HaveEnds touches ends =
    (i : ℕ) (x : Touch) (end : ℕ) → slice_get touches i ≡ Some x → slice_get ends i ≡ Some end → IsEnd touches i x end

-- up to its end no later one among the first so many touches is of its tuple
abbrev pub AreLastAmong : ℕ → List Touch → List ℕ → Type 0
AreLastAmong n touches ends =
    (i j end : ℕ) (x y : Touch) → slice_get touches i ≡ Some x → slice_get ends i ≡ Some end → i < j → j < n
    → slice_get touches j ≡ Some y → y.tuple ≡ x.tuple → end < y.at

-- an end for each touch
pub record AreEnds (touches : List Touch) (ends : List ℕ) : Type 0 where
  pub all : length ends ≡ length touches
  pub each : HaveEnds touches ends
  pub last : AreLastAmong (length touches) touches ends

-- a later touch of a tuple has a later timestamp
abbrev pub AreRising : List Touch → Type 0
AreRising touches =
    (i j : ℕ) (x y : Touch) → i < j → slice_get touches i ≡ Some x → slice_get touches j ≡ Some y → y.tuple ≡ x.tuple
    → x.at < y.at

-- a mark by which a userset is looked for at a timestamp is this one, from a timestamp on that is no later
abbrev pub IsKeyOf : List Declaration → Way → SetValue → SetValue → Option (ℕ × ℕ) → Type 0
IsKeyOf ds way s g key =
    (at mark : ℕ) → at < 2 ^ 64 → IsMark ds way s g at mark → (from : ℕ) × (key ≡ Some (mark, from)) × (from ≤ at)

-- a mark is that of the userset of a touch, where its user is a userset too
abbrev pub IsMarkOf : Touch → ℕ → Type 0
IsMarkOf x mark = (g : SetValue) → x.tuple.user ≡ Set g → mark ≡ set_mark x.tuple.set

-- the same of the touch at an index
abbrev pub IsSetMark : List Touch → ℕ → ℕ → Type 0
IsSetMark touches i mark = (x : Touch) → slice_get touches i ≡ Some x → IsMarkOf x mark

-- the mark of the userset of the touch at an index is there, where its user is a userset too
abbrev pub IsMarkAt : List Touch → ℕ → Option ℕ → Type 0
IsMarkAt touches i mark =
    (x : Touch) (g : SetValue) → slice_get touches i ≡ Some x → x.tuple.user ≡ Set g → mark ≡ Some (set_mark x.tuple.set)

-- such a mark for each of the first so many touches
pub record AreSetMarks (touches : List Touch) (n : ℕ) (marks : List ℕ) : Type 0 where
  pub all : length marks ≡ n
  pub each : (i mark : ℕ) → slice_get marks i ≡ Some mark → IsSetMark touches i mark

-- the life of a touch, where it has one, holds each timestamp up to its end at which it is looked for
abbrev pub IsLifeOf : List Declaration → Way → ℕ → Touch → ℕ → Option Life → Type 0
IsLifeOf ds way i x end life =
    (at mark : ℕ) (g : SetValue) → x.live ≡ true → x.tuple.user ≡ Set g → at < 2 ^ 64
    → x.at ≤ at → at ≤ end → IsMark ds way x.tuple.set g at mark
    → (l : Life) × (life ≡ Some l) × (l.mark ≡ mark) × (l.touch ≡ i) × (is_alive at l ≡ true)

-- the same where its userset is crowded
abbrev pub IsCrowdedLifeOf : List Declaration → Way → List ℕ → ℕ → Touch → ℕ → Option Life → Type 0
IsCrowdedLifeOf ds way crowds i x end life =
    (at mark : ℕ) (g : SetValue) → x.live ≡ true → x.tuple.user ≡ Set g
    → is_crowded crowds (set_mark x.tuple.set) ≡ true → at < 2 ^ 64
    → x.at ≤ at → at ≤ end → IsMark ds way x.tuple.set g at mark
    → (l : Life) × (life ≡ Some l) × (l.mark ≡ mark) × (l.touch ≡ i) × (is_alive at l ≡ true)

-- a life of a touch that adds, from no earlier than that on and up to its end at most
pub record IsWithin (i : ℕ) (x : Touch) (end : ℕ) (l : Life) : Type 0 where
  pub of : l.touch ≡ i
  pub adds : x.live ≡ true
  pub since : x.at ≤ l.from
  pub until : l.until ≤ end

-- the lives are of touches among the first so many, no two of one
pub record AreOfFirst (n : ℕ) (lives : List Life) : Type 0 where
  pub once : AreOnce lives
  pub before : (l : Life) → Contains lives l → l.touch < n

-- lives of the touches of some of the first so many lives, no two of one
pub record AreMadeOf (lives : List Life) (n : ℕ) (made : List Life) : Type 0 where
  pub once : AreOnce made
  pub of : (m : Life) → Contains made m → (k : ℕ) × (l : Life) × (k < n) × (slice_get lives k ≡ Some l) × (m.touch ≡ l.touch)

-- with a life behind the others, if there is one
abbrev pub kept : List Life → Option Life → List Life
kept lives None = lives
kept lives (Some l) = lives ++ l ∷ []

-- the touches among the first so many are found
abbrev pub HoldsFirst : ℕ → List Declaration → Way → List Touch → List ℕ → List Life → Type 0
HoldsFirst n ds way touches crowds lives =
    (i at mark : ℕ) (x : Touch) (g : SetValue) → i < n → IsLastTouch touches at i x → x.tuple.user ≡ Set g
    → is_crowded crowds (set_mark x.tuple.set) ≡ true → at < 2 ^ 64 → IsMark ds way x.tuple.set g at mark
    → IsFound lives mark at i

-- the three lists of lives that an index has of crowded usersets
pub record AreLives (ds : List Declaration) (touches : List Touch) (crowds : List ℕ) (own through objects : List Life)
    : Type 0 where
  pub own_held : Holds ds Own touches crowds own
  pub own_exact : AreExact touches own
  pub through_held : HoldsThrough ds touches crowds through
  pub through_exact : AreExact touches through
  pub objects_held : Holds ds Object touches crowds objects
