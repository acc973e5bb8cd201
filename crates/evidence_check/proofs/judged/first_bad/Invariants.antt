use Rattle.std.proofs.Common.{◌≡◌, ◌+◌, drop}
use Rattle.namespaces.specs.Lookup.{rule_at}
use Rattle.version_chains.specs.Commits.{store_at}
use Rattle.evidence_check.specs.Accepted.{after_steps}
use Rattle.evidence_check.specs.Growing.{IsBorneOut}
use Rattle.evidence_check.specs.Judged.{first_bad}
use Rattle.evidence_check.specs.Rules.{AreLast}
use Rattle.evidence_check.specs.Steps.{borrowed_steps}
use Rattle.evidence_check.proofs.judged.first_bad.Given as goal

-- what is left decides, what is known bears itself out, the last rules are those of their usersets, and rules are asked by the trace's
-- declarations
abbrev pub invariant-loop-k : goal.invariant-loop-k
invariant-loop-k l =
    (first_bad (rule_at l.fn.asked.declarations l.at) (store_at l.fn.asked.commits l.at) l.known (l.k + 1) (borrowed_steps (drop l.k l.steps))
    ≡ first_bad (rule_at l.fn.asked.declarations l.at) (store_at l.fn.asked.commits l.at) l.fn.known 1 (borrowed_steps l.steps))
    × (after_steps l.known (borrowed_steps (drop l.k l.steps)) ≡ after_steps l.fn.known (borrowed_steps l.steps))
    × IsBorneOut (rule_at l.fn.asked.declarations l.at) (store_at l.fn.asked.commits l.at) l.known
    × AreLast l.fn.asked.declarations l.at l.rules
    × (l.asked ≡ l.fn.asked)
