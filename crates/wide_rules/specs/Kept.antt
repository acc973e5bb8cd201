-- What is kept of a part that reads through a tupleset. No public clause cites this module.
use Rattle.std.specs.Prelude.{◌≡◌, ◌≤◌, ℕ, length, List, Contains, Option, None, Some, slice_get, string_bytes}
use Rattle.std.specs.Option.{ForSome}
use Rattle.std.specs.declared.alloc.Global.{Global}
use Rattle.std.specs.declared.boxed.Box.{Box}
use Rattle.tuple_text.specs.Sets.{SetValue}
use Rattle.tuple_text.specs.declared.users.User.TheVariants.{Set}
use Rattle.namespaces.specs.Lookup.{namespace_names, place_of}
use Rattle.rewrites.specs.Parts.{computed_names}
use Rattle.rewrites.specs.declared.parts.Part.{Part}
use Rattle.rewrites.specs.declared.parts.Through.{Through}
use Rattle.strata.specs.Meaning.{IsStored}
use Rattle.namespaces.specs.Numbers.{Has}
use Rattle.snapshots.specs.Snapshots.{rules_in, snapshot_at, tuples_in}
use Rattle.snapshots.specs.Timelines.{TimelineValue}
use Rattle.snapshots.specs.declared.snapshot.Snapshot.{Snapshot}
use Rattle.wide_rules.specs.Declaring.{AreDeclaring}
use Rattle.wide_rules.specs.declared.kept.Kept.{Kept}

-- the numbers of all namespaces of usersets that are stored in `set` and whose namespace declares one of these
-- relations, and maybe of others
pub record AreLive (s : Snapshot) (set : SetValue) (names : List (List ℕ)) (numbers : List ℕ) : Type 0 where
  pub few : length (namespace_names s.timeline.declarations) ≤ 256
  pub all : (n : ℕ) (g : SetValue) (relation : List ℕ) → IsStored (tuples_in s) set (Set g)
      → place_of g.namespace (namespace_names s.timeline.declarations) ≡ Some n → Contains names relation
      → ¬ (rules_in s g.namespace relation ≡ None)
      → Contains numbers n

-- the tupleset for whose usersets numbers are kept
abbrev pub kept_set : Kept → Through → SetValue
kept_set k through = record {
  namespace = string_bytes k.namespace;
  id = string_bytes k.id;
  relation = string_bytes through.tupleset;
}

-- what is kept of a part that reads through a tupleset
pub record IsKept (timeline : TimelineValue) (through : Through) (k : Kept) : Type 0 where
  pub declaring : AreDeclaring timeline.declarations (computed_names through) k.declaring.items
  pub numbers : (n : ℕ) → Contains k.declaring.items n → Has k.numbers n
  pub live : AreLive (snapshot_at timeline k.at) (kept_set k through) (computed_names through) k.live.items

abbrev pub MayBeKept : TimelineValue → Through → Option (Box Kept Global) → Type 0
MayBeKept timeline through kept = ForSome kept (λ k. IsKept timeline through k.value)

-- so it is of each part that reads through a tupleset, and there is room for each part
pub record AreKeptByPart (timeline : TimelineValue) (parts : List Part) (kept : List (Option (Box Kept Global))) :
    Type 0 where
  pub room : length kept ≡ length parts
  pub each : (k : ℕ) (through : Through) (one : Option (Box Kept Global))
      → slice_get parts k ≡ Some (Part.Through through)
      → slice_get kept k ≡ Some one → MayBeKept timeline through one
