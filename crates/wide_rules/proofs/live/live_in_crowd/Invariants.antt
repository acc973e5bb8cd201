use Rattle.std.proofs.Common.{◌≡◌, ℕ, List, ◌<◌, None, Some}
use Rattle.std.specs.Prelude.{Contains, slice_get}
use Rattle.tuple_text.specs.Refs.{set_value}
use Rattle.tuple_text.specs.Sets.{SetValue}
use Rattle.tuple_text.specs.declared.users.User.TheVariants.{Set}
use Rattle.namespaces.specs.Lookup.{namespace_names, place_of}
use Rattle.rewrites.specs.Parts.{computed_names}
use Rattle.strata.specs.Meaning.{IsStored}
use Rattle.snapshots.specs.Snapshots.{rules_in, tuples_in}
use Rattle.wide_rules.proofs.live.live_in_crowd.Given as goal

-- of the numbers so far those are there of which something matters
abbrev pub invariant-loop-number : goal.invariant-loop-number
invariant-loop-number l =
    (k n : ℕ) → k < l.number-index → slice_get l.declaring k ≡ Some n → (g : SetValue) (name : List ℕ)
    → IsStored (tuples_in l.snapshot) (set_value l.set.set) (Set g) → place_of g.namespace (namespace_names l.snapshot.timeline.declarations) ≡ Some n
    → Contains (computed_names l.through) name → ¬ (rules_in l.snapshot g.namespace name ≡ None) → Contains l.live.items n
