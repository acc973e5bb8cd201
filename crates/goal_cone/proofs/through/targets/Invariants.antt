use Rattle.std.specs.Prelude.{map, string_bytes}
use Rattle.std.specs.Vec.Iter.{into_iter_items}
use Rattle.tuple_text.specs.Refs.{set_value}
use Rattle.rewrites.specs.Parts.{computed_names}
use Rattle.strata.specs.Meaning.{with_relation}
use Rattle.snapshots.specs.Snapshots.{rules_in}
use Rattle.wide_rules.specs.Declaring.{HaveDeclaring}
use Rattle.goal_cone.specs.Targets.{AreRead, AreTargeted}
use Rattle.goal_cone.proofs.through.targets.Given as goal

abbrev pub invariant-loop-stored : goal.invariant-loop-stored
invariant-loop-stored l =
    HaveDeclaring l.snapshot.timeline.declarations (computed_names l.through) l.declaring
    → AreRead (rules_in l.snapshot (set_value l.of).namespace) (computed_names l.through) (map (λ s. s.now) l.names.items)
    × AreTargeted l.snapshot (with_relation (set_value l.set) (string_bytes l.through.tupleset)) (computed_names l.through)
    (map set_value (into_iter_items l.initial.stored-iterator)) (map set_value (into_iter_items l.stored-iterator)) (map set_value l.targets.items)
