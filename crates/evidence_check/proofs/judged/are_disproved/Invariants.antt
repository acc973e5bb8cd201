use Rattle.std.proofs.Common.{◌≡◌, ◌↔◌, drop, map}
use Rattle.std.specs.List.{AllByRecursion}
use Rattle.namespaces.specs.Lookup.{rule_at}
use Rattle.version_chains.specs.Commits.{store_at}
use Rattle.judgement.specs.Facts.{marked_fact}
use Rattle.evidence_check.specs.Accepted.{IsDisproved}
use Rattle.evidence_check.specs.Rules.{IsLast}
use Rattle.evidence_check.proofs.judged.are_disproved.Given as goal

-- what is left decides, the last rule is that of its userset, and rules are asked over the trace
abbrev pub invariant-loop-fact : goal.invariant-loop-fact
invariant-loop-fact l =
    (AllByRecursion (IsDisproved (rule_at l.fn.asked.declarations l.at) (store_at l.fn.asked.commits l.at) l.known) (map marked_fact (drop l.fact-index l.facts))
    ↔ AllByRecursion (IsDisproved (rule_at l.fn.asked.declarations l.at) (store_at l.fn.asked.commits l.at) l.known) (map marked_fact l.facts))
    × IsLast l.fn.asked.declarations l.at l.last
    × (l.asked ≡ l.fn.asked)
