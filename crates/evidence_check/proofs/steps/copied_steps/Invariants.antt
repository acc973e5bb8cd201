use Rattle.std.proofs.Common.{◌≡◌, ◌++◌, drop}
use Rattle.evidence_check.specs.Steps.{step_values, borrowed_steps}
use Rattle.evidence_check.proofs.steps.copied_steps.Given as goal

abbrev pub invariant-loop-step : goal.invariant-loop-step
invariant-loop-step l = step_values l.copied.items ++ borrowed_steps (drop l.step-index l.steps) ≡ borrowed_steps l.steps
