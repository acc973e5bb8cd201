use Rattle.std.proofs.Common.{rules, [], ◌∷◌, List, map, ap, ◌∙◌}
use Rattle.std.proofs.lemmas.List.{map-append}
use Rattle.tuple_text.specs.FactRefs.{fact_value}
use Rattle.tuple_text.specs.declared.fact_refs.FactRef.{FactRef}
use Rattle.json_lines.proofs.ItemLoops.{read_to_first, read_to_next, read_fails, all_read}
use Rattle.evidence_check.specs.Causes.{is_memory}
use Rattle.evidence_check.specs.Reading.{facts_in}
use Rattle.evidence_check.proofs.StepLoops.{facts_are_read}
use Rattle.evidence_check.proofs.records.facts_in.Goals as goal

pub loop-item-init : goal.loop-item-init
loop-item-init c = rw c.new-facts.ensures.items (read_to_first _ _ facts_in facts_are_read c.args.items.now)

pub loop-item-preserved : goal.loop-item-preserved
loop-item-preserved c =
    let pushed = ap (λ (fs : List FactRef). map fact_value fs) c.in_ok-push.ensures.items ∙ map-append fact_value c.loop-item.facts.items (c.in_ok-fact_in.field-0 ∷ []) in
    read_to_next _ _ facts_in facts_are_read c.args.items.now c.loop-item.item-index c.item-item.result (map fact_value c.loop-item.facts.items)
    c.loop-item-test.true c.item-item.is c.loop-item.invariant (fact_value c.in_ok-fact_in.field-0) (map fact_value c.push.new.self.items)
    c.in_ok-fact_in.ensures pushed

pub returns-in_err-fact_in : goal.returns-in_err-fact_in
returns-in_err-fact_in c =
    let told = read_fails _ _ facts_in facts_are_read c.args.items.now c.loop-item.item-index c.item-item.result (map fact_value c.loop-item.facts.items)
    c.loop-item-test.true c.item-item.is c.loop-item.invariant is_memory c.in_err-fact_in.field-0.0 c.in_err-fact_in.ensures in
    search rules

pub returns : goal.returns
returns c = all_read _ _ facts_in facts_are_read c.args.items.now _ _ c.loop-item-test.false c.loop-item.invariant
