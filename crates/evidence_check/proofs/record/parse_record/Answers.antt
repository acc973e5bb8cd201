use Rattle.evidence_check.specs.Steps.{borrowed_steps}
use Rattle.evidence_check.proofs.RecordSteps.{text_read}
use Rattle.evidence_check.proofs.record.parse_record.Goals as goal

pub returns-in-Some : goal.returns-in-Some
returns-in-Some c = text_read c.args.text.now c.in-Some.record.line (borrowed_steps c.in-Some.record.steps.items) c.in-Some.ensures
