use Rattle.std.proofs.Common.{rules, ◌≡◌, [], ◌∷◌, ◌++◌}
use Rattle.std.proofs.lemmas.List.{map-append}
use Rattle.evidence_check.specs.Steps.{borrowed_step, borrowed_steps}
use Rattle.evidence_check.specs.RecordData.{step_data, HasFacts}
use Rattle.evidence_check.proofs.RecordPieces.{first_item, next_item}
use Rattle.evidence_check.proofs.written.steps_before.Goals as goal

pub loop-next-init : goal.loop-next-init
loop-next-init c =
    let pushed : c.push.new.self.items ≡ c.in_ok-step.step ∷ [] = search rules in
    let first = first_item step_data HasFacts c.args.text.now c.in_ok-step.rest.now (borrowed_step c.in_ok-step.step)
    (search rules) in
    (rw pushed first, search rules)

pub loop-next-preserved : goal.loop-next-preserved
loop-next-preserved c =
    let pushed : c.push-in-Some.new.self.items ≡ c.loop-next.steps.items ++ c.in_ok-step-2.step ∷ [] = search rules in
    let steps = borrowed_steps c.loop-next.steps.items in
    let grown = next_item step_data HasFacts c.args.text.now c.loop-next.rest.now c.in-Some.next.now
    c.in_ok-step-2.after.now steps (borrowed_step c.in_ok-step-2.step) (search rules) (search rules) (search rules) in
    (rw (pushed, map-append borrowed_step c.loop-next.steps.items (c.in_ok-step-2.step ∷ [])) grown, search rules)
