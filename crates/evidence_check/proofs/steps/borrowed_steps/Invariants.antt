use Rattle.std.proofs.Common.{◌≡◌, ◌++◌, drop}
use Rattle.evidence_check.specs.Steps.{step_values, borrowed_steps}
use Rattle.evidence_check.proofs.steps.borrowed_steps.Given as goal

abbrev pub invariant-loop-step : goal.invariant-loop-step
invariant-loop-step l = borrowed_steps l.borrowed.items ++ step_values (drop l.step-index l.steps) ≡ step_values l.steps
