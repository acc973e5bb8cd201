use Rattle.std.proofs.Common.{length, map, sym, ◌∙◌, arith}
use Rattle.std.proofs.lemmas.Bool.{eqb-false}
use Rattle.std.proofs.lemmas.List.{at_drop_all, length-map}
use Rattle.evidence_check.specs.RecordData.{fact_data}
use Rattle.record_text.proofs.Counted.{counted_list}
use Rattle.record_text.proofs.Lengths.{later_length}
use Rattle.record_text.proofs.count.facts_bytes.Goals as goal

pub returns : goal.returns
returns c =
    let some = eqb-false (length c.args.facts.now) 0 (sym c.is_empty.ensures ∙ c.if-is_empty.false) in
    let none = at_drop_all (λ fs. later_length (map fact_data fs)) c.args.facts.now c.loop-fact.fact-index (omega (arith, c.loop-fact-test.false)) in
    counted_list c.loop-fact.count _ (map fact_data c.args.facts.now) (omega (arith, length-map c.args.facts.now fact_data, some)) c.loop-fact.invariant.0 c.loop-fact.invariant.1 none
