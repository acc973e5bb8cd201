use Rattle.std.proofs.Common.{◌≡◌, ◌+◌, ◌-◌, ◌^◌, ◌≤◌, min, drop, map}
use Rattle.evidence_check.specs.RecordData.{step_data}
use Rattle.evidence_check.specs.Steps.{step_values}
use Rattle.record_text.proofs.Lengths.{later_length}
use Rattle.record_text.proofs.count.steps_bytes.Given as goal

abbrev pub invariant-loop-step : goal.invariant-loop-step
invariant-loop-step l = (l.count ≤ 2 ^ 64 - 1) × (min (l.count + later_length (map step_data (step_values (drop l.step-index l.steps)))) (2 ^ 64 - 1) ≡ min (1 + later_length (map step_data (step_values l.steps))) (2 ^ 64 - 1))
