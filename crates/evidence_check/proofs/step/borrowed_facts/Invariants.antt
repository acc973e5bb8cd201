use Rattle.std.proofs.Common.{◌≡◌, map, take}
use Rattle.tuple_text.specs.FactRefs.{fact_value}
use Rattle.evidence_check.proofs.step.borrowed_facts.Given as goal

abbrev pub invariant-loop-fact : goal.invariant-loop-fact
invariant-loop-fact l = map fact_value l.borrowed.items ≡ take l.fact-index l.facts
