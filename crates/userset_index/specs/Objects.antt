-- What the pass leaves that keeps one life of an object at a time. No public clause cites this module.
use Rattle.std.specs.Prelude.{◌≡◌, ℕ, true, List, [], Option, None, Some, IfSome, option_map, slice_get, Contains}
use Rattle.tuple_text.specs.Sets.{SetValue}
use Rattle.tuple_text.specs.declared.users.User.{User}
use Rattle.tuple_text.specs.declared.users.User.TheVariants.{Id, Set}
use Rattle.namespaces.specs.Declaration.{Declaration}
use Rattle.namespaces.specs.Lookup.{namespace_names, place_of}
use Rattle.version_chains.specs.Commits.{Touch}
use Rattle.marks.specs.Marks.{pair_mark, set_mark}
use Rattle.userset_index.specs.Building.{kept}
use Rattle.userset_index.specs.Lives.{is_alive}
use Rattle.userset_index.specs.declared.life.Life.{Life}
use Rattle.userset_index.specs.declared.objects.Merged.{Merged}

-- the object of a user, where it is a userset
abbrev pub object_of : User → Option SetValue
object_of (Id n) = None
object_of (Set g) = Some (record g { relation = [] })

-- the userset that the touch at an index is stored in, and the object of its user
abbrev pub object_at : List Touch → ℕ → Option (SetValue × Option SetValue)
object_at touches i = option_map (λ x. (x.tuple.set, object_of x.tuple.user)) (slice_get touches i)

-- one of the lives holds a timestamp, and is of the object of the touch at an index
pub record IsCoveredBy (touches : List Touch) (lives : List Life) (i t : ℕ) : Type 0 where
  pub life : Life
  pub there : Contains lives life
  pub alive : is_alive t life ≡ true
  pub one_object : object_at touches life.touch ≡ object_at touches i

-- so is each timestamp of what is said to be covered
abbrev pub IsCover : List Touch → Merged → Type 0
IsCover touches m = (t : ℕ) → is_alive t m.cover ≡ true → IsCoveredBy touches m.lives.items m.cover.touch t

-- the lives with at most one more behind them, of the touch of a life
pub record KeepsOf (life : Life) (old new : List Life) : Type 0 where
  pub more : Option Life
  pub new_is : new ≡ kept old more
  pub of : IfSome more (λ m. m.touch ≡ life.touch)

-- the same life, but for the mark by which it is looked for
pub record IsSameLife (l m : Life) : Type 0 where
  pub touch : m.touch ≡ l.touch
  pub from : m.from ≡ l.from
  pub until : m.until ≡ l.until

-- a life, looked for by the userset that its touch is stored in and the number of its user's namespace
abbrev pub IsNumbered : List Declaration → List Touch → Life → Option Life → Type 0
IsNumbered ds touches l numbered =
    (x : Touch) (g : SetValue) (n : ℕ) → slice_get touches l.touch ≡ Some x → x.tuple.user ≡ Set g
    → place_of g.namespace (namespace_names ds) ≡ Some n
    → numbered ≡ Some (record l { mark = pair_mark (set_mark x.tuple.set) n })

-- all lives that such are made of are there
abbrev pub AreNumbered : List Declaration → List Touch → List Life → List Life → Type 0
AreNumbered ds touches lives numbered =
    (l : Life) (x : Touch) (g : SetValue) (n : ℕ) → Contains lives l → slice_get touches l.touch ≡ Some x
    → x.tuple.user ≡ Set g → place_of g.namespace (namespace_names ds) ≡ Some n
    → Contains numbered (record l { mark = pair_mark (set_mark x.tuple.set) n })
