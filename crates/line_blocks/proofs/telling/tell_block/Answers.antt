use Rattle.std.proofs.Common.{rules, ◌≡◌, ◌≤◌, ◌∙◌, sym, ap, length, ◌-◌, ◌+◌, true, false}
use Rattle.json_lines.specs.Lines.{line_len}
use Rattle.json_lines.specs.Reading.{passes_limit}
use Rattle.line_blocks.specs.Blocks.{lines_of}
use Rattle.line_blocks.specs.Parts.{lines_told}
use Rattle.line_blocks.proofs.BlockLines.{onto, goes_on, is_over, is_refused, is_done}
use Rattle.line_blocks.proofs.telling.tell_block.Goals as goal

pub returns-then-is_over-clause-told : goal.returns-then-is_over-clause-told
returns-then-is_over-clause-told g c =
    let over : passes_limit c.loop-line.left c.in-Some.line.now true ≡ true =
    sym c.is_over.ensures ∙ c.if-is_over.true in
    sym (c.loop-line.invariant.0 ∙ is_over (g.J.TellLine.told c.args.teller.now) c.loop-line.left
    c.loop-line.rest.now c.in-Some.line.now c.in-Some.after.now c.loop-line.values.items c.in-Some.ensures.line
    c.in-Some.ensures.rest c.in-Some.ensures.within over)

pub returns-in-Err-clause-told : goal.returns-in-Err-clause-told
returns-in-Err-clause-told g c =
    let within : passes_limit c.loop-line.left c.in-Some.line.now true ≡ false =
    sym c.is_over.ensures ∙ c.if-is_over.false in
    sym (c.loop-line.invariant.0 ∙ is_refused (g.J.TellLine.told c.args.teller.now) c.loop-line.left
    c.loop-line.rest.now c.in-Some.line.now c.in-Some.after.now c.loop-line.values.items c.in-Some.ensures.line
    c.in-Some.ensures.rest c.in-Some.ensures.within c.in-Err.cause within
    (search rules))

pub loop-line-preserved : goal.loop-line-preserved
loop-line-preserved g c =
    let within : passes_limit c.loop-line.left c.in-Some.line.now true ≡ false =
    sym c.is_over.ensures ∙ c.if-is_over.false in (
      c.loop-line.invariant.0
          ∙ goes_on (g.J.TellLine.told c.args.teller.now) c.loop-line.left c.loop-line.rest.now c.in-Some.line.now
          c.in-Some.after.now c.loop-line.values.items c.in-Some.ensures.line c.in-Some.ensures.rest
          c.in-Some.ensures.within c.in-Ok.value within (search rules)
          ∙ ap (λ vs. onto vs (lines_told (g.J.TellLine.told c.args.teller.now)
          (c.loop-line.left - (length c.in-Some.line.now + 1)) (lines_of c.in-Some.after.now)))
          (sym c.in_ok-push-in-Ok.ensures.items),
      search rules,
    )

pub returns-clause-told : goal.returns-clause-told
returns-clause-told g c =
    let le : length c.loop-line.rest.now ≤ line_len c.loop-line.rest.now = search rules in
    sym (c.loop-line.invariant.0 ∙ is_done (g.J.TellLine.told c.args.teller.now) c.loop-line.left
    c.loop-line.rest.now c.loop-line.values.items le)
