use Rattle.std.proofs.Common.{◌≡◌, ◌++◌, drop, map, false}
use Rattle.std.specs.Prelude.{string_bytes}
use Rattle.serde_json.specs.View.{items_of}
use Rattle.serde_json.specs.Written.{items_text}
use Rattle.evidence_check.specs.RecordData.{step_data, HaveFacts}
use Rattle.evidence_check.specs.Steps.{step_values}
use Rattle.record_text.proofs.record.push_steps.Given as goal

-- what is left decides
abbrev pub invariant-loop-step : goal.invariant-loop-step
invariant-loop-step l =
    (string_bytes l.out ++ items_text l.later (items_of (map step_data (step_values (drop l.step-index l.steps)))) ≡ string_bytes l.initial.out ++ items_text false (items_of (map step_data (step_values l.steps))))
    × (HaveFacts (step_values (drop l.step-index l.steps)) → HaveFacts (step_values l.steps))
