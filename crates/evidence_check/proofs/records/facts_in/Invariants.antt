use Rattle.std.proofs.Common.{◌∷◌, map}
use Rattle.tuple_text.specs.FactRefs.{fact_value}
use Rattle.json_lines.proofs.ItemLoops.{IsReadTo}
use Rattle.evidence_check.specs.Reading.{fact_in, facts_in}
use Rattle.evidence_check.proofs.records.facts_in.Given as goal

abbrev pub invariant-loop-item : goal.invariant-loop-item
invariant-loop-item l = IsReadTo fact_in (λ f fs. f ∷ fs) facts_in (map fact_value l.facts.items) l.item-index l.items
