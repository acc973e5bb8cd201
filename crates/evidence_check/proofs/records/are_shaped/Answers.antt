use Rattle.std.proofs.Common.{◌∙◌}
use Rattle.evidence_check.proofs.StepLoops.{each_is_shaped}
use Rattle.evidence_check.proofs.records.are_shaped.Goals as goal

pub returns : goal.returns
returns c = c.is_each_step.ensures ∙ each_is_shaped c.args.steps.now
