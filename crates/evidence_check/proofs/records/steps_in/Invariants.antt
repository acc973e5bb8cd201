use Rattle.evidence_check.specs.Reading.{in_front, step_in, steps_in}
use Rattle.evidence_check.specs.Steps.{borrowed_steps}
use Rattle.json_lines.proofs.ItemLoops.{IsReadTo}
use Rattle.evidence_check.proofs.records.steps_in.Given as goal

abbrev pub invariant-loop-item : goal.invariant-loop-item
invariant-loop-item l = IsReadTo step_in in_front steps_in (borrowed_steps l.steps.items) l.item-index l.items
