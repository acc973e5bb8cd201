use Rattle.std.specs.Prelude.{◌≡◌, ◌++◌, drop, map}
use Rattle.tuple_text.specs.Refs.{set_value}
use Rattle.goal_cone.specs.Targets.{targets_under}
use Rattle.goal_cone.proofs.through.push_under.Given as goal

-- what is there and what is to come
abbrev pub invariant-loop-relation : goal.invariant-loop-relation
invariant-loop-relation l =
    map set_value l.targets.items ++ targets_under (set_value l.set) (map (λ s. s.now) (drop l.relation-index l.names))
    ≡ map set_value l.fn.targets.items ++ targets_under (set_value l.set) (map (λ s. s.now) l.names)
