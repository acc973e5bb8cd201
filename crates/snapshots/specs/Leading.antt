-- The usersets that are stored in another and may lead to its members.
use Rattle.std.specs.Prelude.{◌≡◌, ◌&&◌, ◌<◌, ◌≤◌, ℕ, Bool, true, List, [], Option, None, Some, Contains, cond, length, slice_get}
use Rattle.std.specs.List.{IsDistinct, filter_map}
use Rattle.std.specs.Str.{bytes_eq}
use Rattle.tuple_text.specs.Sets.{SetValue, set_eq}
use Rattle.tuple_text.specs.declared.users.User.{User}
use Rattle.tuple_text.specs.declared.users.User.TheVariants.{Id, Set}
use Rattle.namespaces.specs.Lookup.{namespace_names, namespace_numbered, place_of, rule_of}
use Rattle.strata.specs.Meaning.{with_relation, IsStored}
use Rattle.version_chains.specs.Commits.{Touch, changelog}
use Rattle.marks.specs.Marks.{pair_mark, set_mark}
use Rattle.userset_index.specs.Index.{IndexValue}
use Rattle.userset_index.specs.Lives.{touches_alive}
use Rattle.snapshots.specs.Snapshots.{rules_in, tuples_in}
use Rattle.snapshots.specs.declared.snapshot.Snapshot.{Snapshot}

-- the userset whose members are asked for: a stored one itself, or its object under a relation
abbrev pub target : SetValue → Option (List ℕ) → SetValue
target g None = g
target g (Some c) = with_relation g c

-- usersets that are stored in `set`, each once
pub record AreStored (s : Snapshot) (set : SetValue) (gs : List SetValue) : Type 0 where
  pub distinct : IsDistinct set_eq gs
  pub each : (g : SetValue) → Contains gs g → IsStored (tuples_in s) set (Set g)

-- and all that are
pub record AreAll (s : Snapshot) (set : SetValue) (gs : List SetValue) : Type 0 where
  pub stored : AreStored s set gs
  pub all : (g : SetValue) → IsStored (tuples_in s) set (Set g) → Contains gs g

-- and among them each whose relation is declared
pub record AreLeading (s : Snapshot) (set : SetValue) (gs : List SetValue) : Type 0 where
  pub stored : AreStored s set gs
  pub own : (g : SetValue) → IsStored (tuples_in s) set (Set g) → ¬ (rule_of (rules_in s) g ≡ None) → Contains gs g

-- the namespace of a userset has a number
abbrev pub IsNumbered : Snapshot → SetValue → ℕ → Type 0
IsNumbered s g n = place_of g.namespace (namespace_names s.timeline.declarations) ≡ Some n

-- both are of one object
pub record IsOfObject (g h : SetValue) : Type 0 where
  pub namespace : h.namespace ≡ g.namespace
  pub id : h.id ≡ g.id

-- and among them one of the object of each whose namespace has a number that is wanted
pub record AreLeadingThrough (s : Snapshot) (set : SetValue) (IsWanted : ℕ → Type 0) (gs : List SetValue) : Type 0 where
  pub stored : AreStored s set gs
  pub through : (n : ℕ) (g : SetValue) → IsStored (tuples_in s) set (Set g) → IsNumbered s g n → IsWanted n
      → (h : SetValue) × Contains gs h × IsOfObject g h

-- whether a userset is of a namespace, or of any
abbrev pub is_of : Option (List ℕ) → SetValue → Bool
is_of None g = true
is_of (Some name) g = bytes_eq name g.namespace

abbrev pub if_set : Bool → Option (List ℕ) → User → Option SetValue
if_set of namespace (Id n) = None
if_set of namespace (Set g) = cond (of && is_of namespace g) (Some g) None

-- the userset that a touch adds to `set` or removes from it, where it is of a namespace, or of any
abbrev pub set_by : SetValue → Option (List ℕ) → Option Touch → Option SetValue
set_by set namespace None = None
set_by set namespace (Some x) = if_set (set_eq set x.tuple.set) namespace x.tuple.user

-- those of some touches of the changelog
abbrev pub sets_by : Snapshot → SetValue → Option (List ℕ) → List ℕ → List SetValue
sets_by s set namespace touches = filter_map (λ i. set_by set namespace (slice_get (changelog s.timeline.commits) i)) touches

abbrev pub sets_named : Snapshot → IndexValue → SetValue → ℕ → Option (List ℕ) → List SetValue
sets_named s v set n None = []
sets_named s v set n (Some name) = sets_by s set (Some name) (touches_alive (pair_mark (set_mark set) n) s.at v.through (length v.through))

-- those that an index finds of a namespace, by its number
abbrev pub sets_of : Snapshot → IndexValue → SetValue → ℕ → List SetValue
sets_of s v set n = sets_named s v set n (namespace_numbered n s.timeline.declarations)

-- ---- as they are gathered

-- each is of a namespace of the first so many
abbrev pub AreBelow : Snapshot → ℕ → List SetValue → Type 0
AreBelow s n gs = (g : SetValue) → Contains gs g
    → (k : ℕ) × (k < n) × (slice_get (namespace_names s.timeline.declarations) k ≡ Some g.namespace)

-- what is gathered of the first so many namespaces
pub record AreGathered (s : Snapshot) (set : SetValue) (IsWanted : ℕ → Type 0) (n : ℕ) (gs : List SetValue) : Type 0 where
  pub through : AreLeadingThrough s set (λ k. IsWanted k × (k ≤ n)) gs
  pub below : AreBelow s n gs
