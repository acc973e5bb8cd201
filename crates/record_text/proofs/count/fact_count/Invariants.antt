use Rattle.std.proofs.Common.{◌≡◌, ◌+◌, ◌-◌, ◌^◌, ◌≤◌, min, drop}
use Rattle.evidence_check.specs.Reading.{fact_count}
use Rattle.evidence_check.specs.Steps.{step_values}
use Rattle.record_text.proofs.count.fact_count.Given as goal

abbrev pub invariant-loop-step : goal.invariant-loop-step
invariant-loop-step l = (l.count ≤ 2 ^ 64 - 1) × (min (l.count + fact_count (step_values (drop l.step-index l.steps))) (2 ^ 64 - 1) ≡ min (fact_count (step_values l.steps)) (2 ^ 64 - 1))
