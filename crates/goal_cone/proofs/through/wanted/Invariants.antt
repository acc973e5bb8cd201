use Rattle.tuple_text.specs.Refs.{set_value}
use Rattle.rewrites.specs.Parts.{computed_names}
use Rattle.wide_rules.specs.Declaring.{HaveDeclaring}
use Rattle.goal_cone.specs.Targets.{AreWanted}
use Rattle.goal_cone.proofs.through.wanted.Given as goal

abbrev pub invariant-loop-before : goal.invariant-loop-before
invariant-loop-before l =
    HaveDeclaring l.snapshot.timeline.declarations (computed_names l.through) l.declaring
    → AreWanted l.snapshot (set_value l.tupleset.set) (computed_names l.through) l.before l.wanted
