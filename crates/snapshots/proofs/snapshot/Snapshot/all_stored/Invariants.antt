use Rattle.std.proofs.Common.{◌≡◌, ◌++◌, map}
use Rattle.tuple_text.specs.Refs.{set_value}
use Rattle.snapshots.proofs.snapshot.Snapshot.all_stored.Given as goal

-- what is there and what is to come
abbrev pub invariant-loop-stored : goal.invariant-loop-stored
invariant-loop-stored l = map set_value l.sets.items ++ l.stored-iterator ≡ l.initial.stored-iterator
