use Rattle.std.specs.Prelude.{◌≡◌, None, map}
use Rattle.namespaces.specs.Lookup.{rule_at}
use Rattle.rewrites.specs.Parts.{computed_names}
use Rattle.goal_cone.specs.Targets.{AreReadBefore}
use Rattle.goal_cone.proofs.through.declared_of.Given as goal

abbrev pub invariant-loop-k : goal.invariant-loop-k
invariant-loop-k l =
    AreReadBefore (computed_names l.through) (computed_names l.through) (λ c. ¬ (rule_at l.rules l.at l.namespace c ≡ None)) l.k (map (λ s. s.now) l.names.items)
