use Rattle.std.proofs.Common.{map}
use Rattle.tuple_text.specs.Refs.{set_value}
use Rattle.namespaces.specs.Numbers.{Has}
use Rattle.snapshots.specs.Leading.{AreGathered}
use Rattle.snapshots.proofs.snapshot.Snapshot.leading_through.Given as goal

abbrev pub invariant-loop-before : goal.invariant-loop-before
invariant-loop-before l = AreGathered l.self (set_value l.set.set) (Has l.wanted) l.before (map set_value l.sets.items)
