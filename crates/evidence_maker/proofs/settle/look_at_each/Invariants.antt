use Rattle.std.proofs.Common.{◌≡◌, ℕ}
use Rattle.namespaces.specs.Lookup.{rule_at}
use Rattle.version_chains.specs.Commits.{store_at}
use Rattle.evidence_check.specs.Steps.{step_values}
use Rattle.evidence_maker.specs.Making.{IsMaking}
use Rattle.evidence_maker.proofs.settle.look_at_each.Given as goal

abbrev pub invariant-loop-place : goal.invariant-loop-place
invariant-loop-place l =
    (l.asked ≡ l.fn.asked)
    × ((k : ℕ)
    → IsMaking (rule_at l.fn.asked.declarations l.at) (store_at l.fn.asked.commits l.at) l.cone k l.fn.known (step_values l.fn.steps.items)
    → IsMaking (rule_at l.fn.asked.declarations l.at) (store_at l.fn.asked.commits l.at) l.cone k l.known (step_values l.steps.items))
