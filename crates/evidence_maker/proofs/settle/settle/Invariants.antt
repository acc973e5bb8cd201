use Rattle.std.proofs.Common.{◌≡◌}
use Rattle.namespaces.specs.Lookup.{rule_at}
use Rattle.version_chains.specs.Commits.{store_at}
use Rattle.evidence_check.specs.Steps.{step_values}
use Rattle.goal_cone.specs.Cone.{HasItsPremises, AreDistinct}
use Rattle.evidence_maker.specs.Making.{IsMaking}
use Rattle.evidence_maker.proofs.settle.settle.Given as goal

abbrev pub invariant-loop-stratum : goal.invariant-loop-stratum
invariant-loop-stratum l =
    (l.asked ≡ l.fn.asked)
    × (HasItsPremises (rule_at l.fn.asked.declarations l.at) (store_at l.fn.asked.commits l.at) l.cone → AreDistinct l.cone
    → IsMaking (rule_at l.fn.asked.declarations l.at) (store_at l.fn.asked.commits l.at) l.cone l.stratum l.known (step_values l.steps.items))
