use Rattle.std.proofs.Common.{◌≡◌, ◌≤◌, true, false, ◌∙◌, inl, refl, rules, arith}
use Rattle.namespaces.specs.Lookup.{rule_at}
use Rattle.version_chains.specs.Commits.{store_at}
use Rattle.trace_lines.specs.EntryViews.{entry_value}
use Rattle.evidence_check.specs.Steps.{step_values}
use Rattle.goal_cone.specs.declared.fault.ConeFault.TheVariants.{Outgrown}
use Rattle.evidence_maker.specs.Made.{IsRecord, IsOneStep}
use Rattle.evidence_maker.proofs.Outgrown.{outgrown_made, outgrown_lower, one_step_fails, cause_of}
use Rattle.evidence_maker.proofs.maker.made_for.Goals as goal

pub returns-clause-gave_up : goal.returns-clause-gave_up
returns-clause-gave_up c = λ gave.
    let t = c.args.asked.now in
    let e = entry_value c.args.entry.now in
    let ss = step_values c.in_ok-steps.steps.items in
    let one = c.in_ok-made.ensures.asked in
    let two = c.in_ok-steps.ensures.asked ∙ one in
    let none = c.in_ok-made.ensures.none (search rules) in
    let more : ¬ IsOneStep t e = one_step_fails t e c.requires.line c.requires.goal (none true) (none false) in
    let no_record : ¬ IsRecord t e ss = rw two at (c.in_ok-made-2.ensures.none c.in-None.is) in
    let cone = rw (c.at-snapshot.ensures, c.timeline.ensures, c.trace.ensures, one, c.in_ok-goal.ensures) at c.in_ok-cone.ensures.cone in
    let settled = rw (c.deref-2.ensures.value, one) at c.in_ok-steps.ensures.made in
    (more, outgrown_made t e c.in_ok-cone.cone.items ss cone (settled cone.premises c.in_ok-cone.ensures.distinct) 4194304 more no_record)

pub returns-in_err-cone-clause-gave_up : goal.returns-in_err-cone-clause-gave_up
returns-in_err-cone-clause-gave_up c = λ gave.
    let t = c.args.asked.now in
    let e = entry_value c.args.entry.now in
    let one = c.in_ok-made.ensures.asked in
    let none = c.in_ok-made.ensures.none (search rules) in
    let more : ¬ IsOneStep t e = one_step_fails t e c.requires.line c.requires.goal (none true) (none false) in
    let cause : c.in_err-cone.field-0.0 ≡ Outgrown =
    cause_of c.from_residual-in_err-cone.result c.in_err-cone.field-0.0 c.from_residual-in_err-cone.ensures.1 gave in
    let le : 100000 ≤ 131072 = omega arith in (
      more,
      inl (outgrown_lower 131072 100000 4194304 (rule_at t.declarations e.snapshot) (store_at t.commits e.snapshot) e.goal le
          ((rw (c.at-snapshot.ensures, c.timeline.ensures, c.trace.ensures, one, c.in_ok-goal.ensures) at c.in_err-cone.ensures.outgrown) (rw cause refl))),
    )
