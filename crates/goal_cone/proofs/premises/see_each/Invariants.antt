use Rattle.std.specs.Prelude.{length, map}
use Rattle.std.specs.Vec.Iter.{into_iter_items}
use Rattle.tuple_text.specs.Refs.{set_value}
use Rattle.snapshots.specs.Snapshots.{rules_in, tuples_in}
use Rattle.goal_cone.specs.Pass.{AmongSets, IsUnderWay}
use Rattle.goal_cone.proofs.premises.see_each.Given as goal

abbrev pub invariant-loop-set : goal.invariant-loop-set
invariant-loop-set l =
    IsUnderWay 131072 4194304 (rules_in l.fact.snapshot.now) (tuples_in l.fact.snapshot.now)
    (AmongSets l.fact.user (map set_value l.fn.sets.items))
    (AmongSets l.fact.user (map set_value (into_iter_items l.set-iterator)))
    l.fn.seen l.seen l.fn.room l.room (length (map set_value l.fn.sets.items)) (length (map set_value (into_iter_items l.set-iterator)))
