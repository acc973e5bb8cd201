use Rattle.std.proofs.Common.{◌≡◌, ◌++◌, map, option_map}
use Rattle.tuple_text.specs.Refs.{set_value}
use Rattle.snapshots.specs.Leading.{sets_by}
use Rattle.snapshots.proofs.snapshot.Snapshot.push_touched.Given as goal

-- what is there and what is to come
abbrev pub invariant-loop-touch : goal.invariant-loop-touch
invariant-loop-touch l =
    map set_value l.sets.items ++ sets_by l.self (set_value l.set) (option_map (λ s. s.now) l.namespace) l.touch-iterator
    ≡ map set_value l.fn.sets.items ++ sets_by l.self (set_value l.set) (option_map (λ s. s.now) l.namespace) l.fn.touches
