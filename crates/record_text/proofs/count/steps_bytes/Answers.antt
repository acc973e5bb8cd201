use Rattle.std.proofs.Common.{length, map, sym, ◌∙◌, arith}
use Rattle.std.proofs.lemmas.Bool.{eqb-false}
use Rattle.std.proofs.lemmas.List.{at_drop_all, length-map}
use Rattle.evidence_check.specs.RecordData.{step_data}
use Rattle.evidence_check.specs.Steps.{step_value, step_values}
use Rattle.record_text.proofs.Counted.{counted_list}
use Rattle.record_text.proofs.Lengths.{later_length}
use Rattle.record_text.proofs.count.steps_bytes.Goals as goal

pub returns : goal.returns
returns c =
    let some = eqb-false (length c.args.steps.now) 0 (sym c.is_empty.ensures ∙ c.if-is_empty.false) in
    let values = step_values c.args.steps.now in
    let none = at_drop_all (λ ss. later_length (map step_data (step_values ss))) c.args.steps.now c.loop-step.step-index (omega (arith, c.loop-step-test.false)) in
    counted_list c.loop-step.count _ (map step_data values) (omega (arith, length-map values step_data, length-map c.args.steps.now step_value, some)) c.loop-step.invariant.0 c.loop-step.invariant.1 none
