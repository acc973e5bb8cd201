use Rattle.std.proofs.Common.{arith}
use Rattle.std.proofs.lemmas.List.{at_drop_all}
use Rattle.evidence_check.specs.Reading.{fact_count}
use Rattle.evidence_check.specs.Steps.{step_values}
use Rattle.record_text.proofs.Counted.{counted_all}
use Rattle.record_text.proofs.count.fact_count.Goals as goal

pub returns : goal.returns
returns c =
    let none = at_drop_all (λ ss. fact_count (step_values ss)) c.args.steps.now c.loop-step.step-index (omega (arith, c.loop-step-test.false)) in
    counted_all c.loop-step.count _ (fact_count (step_values c.args.steps.now)) c.loop-step.invariant.0 c.loop-step.invariant.1 none
