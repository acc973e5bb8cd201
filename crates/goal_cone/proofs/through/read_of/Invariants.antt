use Rattle.std.specs.Prelude.{Contains, map}
use Rattle.namespaces.specs.InForce.{names_in_force}
use Rattle.rewrites.specs.Parts.{computed_names}
use Rattle.goal_cone.specs.Targets.{AreReadBefore}
use Rattle.goal_cone.proofs.through.read_of.Given as goal

abbrev pub invariant-loop-k : goal.invariant-loop-k
invariant-loop-k l =
    AreReadBefore (names_in_force l.at l.namespace l.rules) (computed_names l.through) (Contains (computed_names l.through)) l.k (map (λ s. s.now) l.names.items)
