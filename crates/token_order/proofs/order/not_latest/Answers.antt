use Rattle.std.proofs.Common.{◌-◌, arith, sym, ◌∙◌}
use Rattle.token_order.specs.Found.{not_latest}
use Rattle.token_order.proofs.Compared.{told_of, first_of_all, latest, late}
use Rattle.token_order.proofs.order.not_latest.Goals as goal

pub returns-then-entry-eq0 : goal.returns-then-entry-eq0
returns-then-entry-eq0 c = λ e at.
    told_of (not_latest c.args.trace.now) c.standing-entry.ensures.value at
    (first_of_all c.standing-entry.ensures.among c.if-entry-eq0.true)

pub returns-then-times-last : goal.returns-then-times-last
returns-then-times-last c = λ e at.
    told_of (not_latest c.args.trace.now) c.standing-entry.ensures.value at
    (latest c.standing-entry.ensures.among (c.standing-entry.result.0.before - 1) (omega (arith, c.if-entry-eq0.false))
    c.if-times-last.true)

pub returns : goal.returns
returns c = λ e at.
    let content = sym c.is_content.ensures ∙ c.if-not-is_content.false in
    told_of (not_latest c.args.trace.now) c.standing-entry.ensures.value at
    (late c.standing-entry.ensures.among (c.standing-entry.result.0.before - 1) c.commit_line.result content
    (omega (arith, c.if-entry-eq0.false)) c.if-times-last.false c.commit_line.ensures.line)
