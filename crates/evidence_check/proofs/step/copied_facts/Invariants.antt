use Rattle.std.proofs.Common.{◌≡◌, ◌++◌, drop, map}
use Rattle.tuple_text.specs.FactRefs.{fact_value}
use Rattle.evidence_check.proofs.step.copied_facts.Given as goal

abbrev pub invariant-loop-fact : goal.invariant-loop-fact
invariant-loop-fact l = l.copied.items ++ map fact_value (drop l.fact-index l.facts) ≡ map fact_value l.facts
