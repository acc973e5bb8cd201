-- What relations give through a tupleset.
use Rattle.std.specs.Prelude.{◌≡◌, ◌+◌, ◌<◌, ◌≤◌, ◌⊎◌, ℕ, List, Option, None, Some, Contains, length, map, slice_get, sum_by}
use Rattle.tuple_text.specs.Sets.{SetValue}
use Rattle.tuple_text.specs.declared.users.User.TheVariants.{Set}
use Rattle.namespaces.specs.Lookup.{Rule}
use Rattle.strata.specs.Meaning.{with_relation, IsStored}
use Rattle.namespaces.specs.Numbers.{Has}
use Rattle.namespaces.specs.declared.number_set.Numbers.{Numbers}
use Rattle.snapshots.specs.Leading.{AreStored, IsNumbered, IsOfObject}
use Rattle.snapshots.specs.Snapshots.{rules_in, tuples_in}
use Rattle.snapshots.specs.declared.snapshot.Snapshot.{Snapshot}
use Rattle.goal_cone.specs.Bounds.{stored_sets}

-- of some names those that a namespace declares, and maybe others of them
pub record AreRead (rules : List ℕ → Option Rule) (names ks : List (List ℕ)) : Type 0 where
  pub few : length ks ≤ length names
  pub read : (c : List ℕ) → Contains ks c → Contains names c
  pub declared : (c : List ℕ) → Contains names c → ¬ (rules c ≡ None) → Contains ks c

-- a userset is stored in a tupleset whose namespace declares the relation
abbrev pub Matters : Snapshot → SetValue → SetValue → List ℕ → Type 0
Matters s tupleset g c = IsStored (tuples_in s) tupleset (Set g) × (¬ (rules_in s g.namespace c ≡ None))

-- of the namespace of a number nothing matters that is stored in a tupleset
abbrev pub IsUnwanted : Snapshot → SetValue → List (List ℕ) → ℕ → Type 0
IsUnwanted s tupleset names n =
    (g : SetValue) (c : List ℕ) → IsNumbered s g n → Contains names c → ¬ Matters s tupleset g c

-- the numbers up to n of the namespaces of which something matters, and maybe others
abbrev pub AreWanted : Snapshot → SetValue → List (List ℕ) → ℕ → Numbers → Type 0
AreWanted s tupleset names n wanted =
    (k : ℕ) (g : SetValue) (c : List ℕ) → k ≤ n → IsNumbered s g k → Contains names c → Matters s tupleset g c
    → Has wanted k

-- usersets that are stored in a tupleset, each once, among them one of the object of each that matters
pub record AreObjects (s : Snapshot) (tupleset : SetValue) (names : List (List ℕ)) (gs : List SetValue) : Type 0 where
  pub stored : AreStored s tupleset gs
  pub matter : (g : SetValue) (c : List ℕ) → Contains names c → Matters s tupleset g c → (h : SetValue) × Contains gs h
      × IsOfObject g h

-- the object of a userset under some relations
abbrev pub targets_under : SetValue → List (List ℕ) → List SetValue
targets_under g cs = map (with_relation g) cs

-- t is the object of a stored userset under one of the relations
pub record IsTarget (s : Snapshot) (tupleset : SetValue) (names : List (List ℕ)) (t : SetValue) : Type 0 where
  pub set : SetValue
  pub relation : List ℕ
  pub stored : IsStored (tuples_in s) tupleset (Set set)
  pub read : Contains names relation
  pub is : t ≡ with_relation set relation

-- objects of usersets that are stored in a tupleset, each under the relations that it declares: no more than each
-- stored one under each
pub record AreTargets (s : Snapshot) (tupleset : SetValue) (names : List (List ℕ)) (ts : List SetValue) : Type 0 where
  pub each : (t : SetValue) → Contains ts t → IsTarget s tupleset names t
  pub led : (g : SetValue) (c : List ℕ) → Contains names c → Matters s tupleset g c → Contains ts (with_relation g c)
  pub few : length ts ≤ sum_by (λ _. length (stored_sets (tuples_in s) tupleset)) names

-- ---- as they are gathered

-- of the first k names of a list those that are wanted, which are among some
pub record AreReadBefore (source names : List (List ℕ)) (IsWanted : List ℕ → Type 0) (k : ℕ) (ks : List (List ℕ)) :
    Type 0 where
  pub few : length ks ≤ k
  pub read : (c : List ℕ) → Contains ks c → Contains names c
  pub wanted : (i : ℕ) (c : List ℕ) → i < k → slice_get source i ≡ Some c → IsWanted c → Contains ks c

-- of the usersets that are stored the last ones are left
pub record AreTargeted (s : Snapshot) (tupleset : SetValue) (names : List (List ℕ)) (gs left ts : List SetValue) :
    Type 0 where
  pub each : (t : SetValue) → Contains ts t → IsTarget s tupleset names t
  pub within : (g : SetValue) → Contains left g → Contains gs g
  pub led : (g : SetValue) (c : List ℕ) → Contains gs g → Contains names c → ¬ (rules_in s g.namespace c ≡ None)
      → Contains ts (with_relation g c) ⊎ Contains left g
  pub few : length ts + sum_by (λ _. length names) left ≤ sum_by (λ _. length names) gs
