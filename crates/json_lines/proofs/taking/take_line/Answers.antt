use Rattle.std.proofs.Common.{◌≡◌, Err, sym, ap, ◌∙◌}
use Rattle.serde_json.specs.Read.{read}
use Rattle.json_lines.specs.Json.{of_json, taken_line}
use Rattle.json_lines.proofs.JsonLines.{of_a_text, of_no_value, of_no_blank, stopped_ok, stopped_refused}
use Rattle.json_lines.proofs.taking.take_line.Given.{Over}
use Rattle.json_lines.proofs.taking.take_line.Goals as goal
use Rattle.json_lines.proofs.taking.take_line.Goals.{After-stopped}

pub returns-in-Err-clause-refused : goal.returns-in-Err-clause-refused
returns-in-Err-clause-refused g c =
    of_no_blank g.T.Cause.LineCause.not_json g.T.TakeJson.taken c.args.number c.args.taker.now c.args.line.now (sym c.is_blank.ensures ∙ c.if-is_blank.false)
    ∙ of_no_value g.T.Cause.LineCause.not_json (g.T.TakeJson.taken c.args.number c.args.taker.now) c.args.line.now (λ u. absurd (c.in-Err.ensures u))
    ∙ ap Err (sym c.not_json.ensures)

-- the line makes what its text makes
by_text : (g : Over) (c : After-stopped g) → taken_line g.T.Cause.LineCause.not_json g.T.TakeJson.taken c.args.number c.args.taker.now c.args.line.now
    ≡ of_json g.T.Cause.LineCause.not_json (g.T.TakeJson.taken c.args.number c.args.taker.now) (read c.in-Ok.text.now)
by_text g c =
    let not_json = g.T.Cause.LineCause.not_json in
    let taken = g.T.TakeJson.taken c.args.number c.args.taker.now in
    of_no_blank not_json g.T.TakeJson.taken c.args.number c.args.taker.now c.args.line.now (sym c.is_blank.ensures ∙ c.if-is_blank.false)
    ∙ of_a_text not_json taken c.args.line.now c.in-Ok.ensures.1
    ∙ ap (λ t. of_json not_json taken (read t)) (sym c.in-Ok.ensures.0)

pub returns-in-Ok-clause-ok : goal.returns-in-Ok-clause-ok
returns-in-Ok-clause-ok g c = rw c.stopped.ensures (stopped_ok g.T.Cause.LineCause.is_memory _ c.take.result _ _ c.take.ensures.answer (by_text g c))

pub returns-in-Ok-clause-refused : goal.returns-in-Ok-clause-refused
returns-in-Ok-clause-refused g c = rw c.stopped.ensures (stopped_refused g.T.Cause.LineCause.is_memory _ c.take.result _ _ c.take.ensures.answer (by_text g c))
