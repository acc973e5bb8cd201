use Rattle.std.proofs.Common.{◌≡◌, drop, map}
use Rattle.tuple_text.specs.FactRefs.{fact_value}
use Rattle.judgement.specs.Facts.{marked_fact}
use Rattle.evidence_check.specs.Accepted.{with_no}
use Rattle.evidence_check.specs.Growing.{AreFresh}
use Rattle.evidence_check.proofs.judged.deny_each.Given as goal

-- what is left makes known what all do
abbrev pub invariant-loop-fact : goal.invariant-loop-fact
invariant-loop-fact l =
    (with_no l.known (map fact_value (drop l.fact-index l.facts)) ≡ with_no l.fn.known (map fact_value l.facts))
    × AreFresh l.fn.known.no l.known.no (map marked_fact l.fresh.items)
