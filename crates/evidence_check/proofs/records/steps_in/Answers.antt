use Rattle.std.proofs.Common.{rules, None, Some, [], ◌∷◌, sym, ap, ◌∙◌}
use Rattle.std.proofs.lemmas.List.{append-nil, map-append}
use Rattle.json_lines.proofs.ItemLoops.{read_to_first, read_to_next, read_fails, all_read}
use Rattle.evidence_check.specs.Causes.{is_memory}
use Rattle.evidence_check.specs.Reading.{steps_in}
use Rattle.evidence_check.specs.Steps.{borrowed_step, borrowed_steps}
use Rattle.evidence_check.proofs.StepLoops.{steps_are_read}
use Rattle.evidence_check.proofs.records.steps_in.Goals as goal
use Rattle.evidence_check.proofs.records.steps_in.Goals.{in-Some+in_ok-push, in_default}

pub loop-item-init : goal.loop-item-init
loop-item-init c = rw c.new-steps.ensures.items (read_to_first _ _ steps_in steps_are_read c.args.items.now)

pub loop-item-preserved : goal.loop-item-preserved
loop-item-preserved c =
    let front = borrowed_steps c.loop-item.steps.items in
    let next = read_to_next _ _ steps_in steps_are_read c.args.items.now c.loop-item.item-index c.item-item.result front
    c.loop-item-test.true c.item-item.is c.loop-item.invariant in
    elim c.match-branch-2.branch [
      | in-Some+in_ok-push w ↦ next (Some (borrowed_step w.in-Some.step)) _ (rw w.in-Some.is at c.in_ok-step.ensures)
          (rw w.steps-is (ap borrowed_steps w.in_ok-push.ensures.items ∙ map-append borrowed_step c.loop-item.steps.items (w.in-Some.step ∷ [])))
      | in_default w ↦ next None _ (rw w.in_default.is at c.in_ok-step.ensures) (rw w.steps-is (sym (append-nil front)))
    ]

pub returns-in_err-step : goal.returns-in_err-step
returns-in_err-step c =
    let told = read_fails _ _ steps_in steps_are_read c.args.items.now c.loop-item.item-index c.item-item.result (borrowed_steps c.loop-item.steps.items)
    c.loop-item-test.true c.item-item.is c.loop-item.invariant is_memory c.in_err-step.field-0.0 c.in_err-step.ensures in
    search rules

pub returns : goal.returns
returns c = all_read _ _ steps_in steps_are_read c.args.items.now _ _ c.loop-item-test.false c.loop-item.invariant
