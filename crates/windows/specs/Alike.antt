-- When two traces say the same at a timestamp.
use Rattle.std.specs.Prelude.{◌≡◌, ℕ, List, Contains, ◌↔◌}
use Rattle.tuple_text.specs.Tuples.{TupleValue}
use Rattle.namespaces.specs.Lookup.{rule_at}
use Rattle.version_chains.specs.Commits.{store_at}
use Rattle.trace_lines.specs.Values.{TraceValue, EntryValue}

-- the same tuples, in whatever order and however often
abbrev pub AreSameTuples : List TupleValue → List TupleValue → Type 0
AreSameTuples a b = (t : TupleValue) → (Contains a t ↔ Contains b t)

-- the same rules are in force at the timestamp, and the same tuples are stored
pub record IsSameAt (s : ℕ) (t u : TraceValue) : Type 0 where
  pub rules : (namespace relation : List ℕ)
      → rule_at t.declarations s namespace relation ≡ rule_at u.declarations s namespace relation
  pub tuples : AreSameTuples (store_at t.commits s) (store_at u.commits s)

-- two entries ask the same at the same snapshot, and had the same reply
pub record AsksTheSame (d e : EntryValue) : Type 0 where
  pub goal : d.goal ≡ e.goal
  pub snapshot : d.snapshot ≡ e.snapshot
  pub reply : d.reply ≡ e.reply
