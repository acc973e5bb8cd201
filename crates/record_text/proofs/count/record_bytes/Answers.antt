use Rattle.std.proofs.Common.{length, ap, arith}
use Rattle.evidence_check.specs.RecordData.{steps_data}
use Rattle.evidence_check.specs.Steps.{step_values}
use Rattle.record_text.proofs.Lengths.{record_length_by_parts}
use Rattle.record_text.proofs.count.record_bytes.Goals as goal

pub returns : goal.returns
returns c =
    let digits = ap length c.format.ensures.text in
    omega (arith, c.saturating_add.ensures, c.saturating_add-2.ensures, c.steps_bytes.ensures, digits, record_length_by_parts c.args.line (steps_data (step_values c.args.steps.now)))
