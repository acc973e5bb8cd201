use Rattle.std.proofs.Common.{rules, arith, ◌≡◌, ◌∙◌, ◌+◌, ◌-◌, sym, suc, ap}
use Rattle.marks.specs.Links.{first_from, longest, stops}
use Rattle.marks.proofs.TableLemmas.{first_further, first_here}
use Rattle.marks.proofs.table.probe.Goals as goal

pub returns-then-ends_at : goal.returns-then-ends_at
returns-then-ends_at c =
    let one_less : longest - c.loop-step.step ≡ suc (longest - (c.loop-step.step + 1)) = search rules in
    let next : c.start_of-start.result + c.loop-step.step + 1 ≡ suc (c.start_of-start.result + c.loop-step.step) = omega arith in
    next
    ∙ sym (first_here (stops c.args.marks.now c.args.mark) c.args.slots.now (longest - (c.loop-step.step + 1)) (c.start_of-start.result + c.loop-step.step) (sym c.ends_at.ensures ∙ search rules))
    ∙ ap (λ n. first_from (stops c.args.marks.now c.args.mark) c.args.slots.now n (c.start_of-start.result + c.loop-step.step)) (sym one_less)
    ∙ c.loop-step.invariant

pub loop-step-preserved : goal.loop-step-preserved
loop-step-preserved c =
    let one_less : longest - c.loop-step.step ≡ suc (longest - (c.loop-step.step + 1)) = search rules in
    let next : c.start_of-start.result + (c.loop-step.step + 1) ≡ suc (c.start_of-start.result + c.loop-step.step) = omega arith in
    ap (first_from (stops c.args.marks.now c.args.mark) c.args.slots.now (longest - (c.loop-step.step + 1))) next
    ∙ sym (first_further (stops c.args.marks.now c.args.mark) c.args.slots.now (longest - (c.loop-step.step + 1)) (c.start_of-start.result + c.loop-step.step) (sym c.ends_at.ensures ∙ search rules))
    ∙ ap (λ n. first_from (stops c.args.marks.now c.args.mark) c.args.slots.now n (c.start_of-start.result + c.loop-step.step)) (sym one_less)
    ∙ c.loop-step.invariant
