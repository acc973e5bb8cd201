use Rattle.std.proofs.Common.{◌∙◌}
use Rattle.evidence_check.proofs.StepLoops.{each_is_known}
use Rattle.evidence_check.proofs.records.are_known.Goals as goal

pub returns : goal.returns
returns c = c.is_each_known.ensures ∙ each_is_known c.args.steps.now
