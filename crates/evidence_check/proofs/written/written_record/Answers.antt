use Rattle.std.proofs.Common.{rules}
use Rattle.evidence_check.specs.Steps.{borrowed_steps}
use Rattle.evidence_check.proofs.RecordPieces.{record_there}
use Rattle.evidence_check.proofs.written.written_record.Goals as goal

pub returns : goal.returns
returns c =
    record_there c.args.text.now c.in_ok-behind.field-0.now c.in_ok-line.rest.now c.in_ok-behind-2.field-0.now
    c.in_ok-steps.rest.now c.in_ok-line.line (borrowed_steps c.in_ok-steps.steps.items)
    (search rules) (search rules) (search rules) (search rules) (search rules) (search rules)
