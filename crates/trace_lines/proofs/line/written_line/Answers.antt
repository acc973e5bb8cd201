use Rattle.std.proofs.Common.{Some, Ok, refl}
use Rattle.json_lines.proofs.JsonLines.{fails_then}
use Rattle.trace_lines.specs.Causes.{is_memory}
use Rattle.trace_lines.specs.LineValues.{records}
use Rattle.trace_lines.specs.LineViews.{commit_value}
use Rattle.trace_lines.specs.Said.{entry_said}
use Rattle.trace_lines.proofs.WrittenCommits.{commit_told}
use Rattle.trace_lines.proofs.WrittenLines.{line_told}
use Rattle.trace_lines.proofs.line.written_line.Goals as goal

pub returns-in-Ok-clause-said : goal.returns-in-Ok-clause-said
returns-in-Ok-clause-said c =
    rw (line_told c.in-Some.kind c.in-Some.check c.args.text.now c.in-Some.ensures, c.in-Ok.ensures) refl

pub returns-in-Err-clause-said : goal.returns-in-Err-clause-said
returns-in-Err-clause-said c =
    rw (line_told c.in-Some.kind c.in-Some.check c.args.text.now c.in-Some.ensures)
    (fails_then is_memory c.in-Err.cause (entry_said c.in-Some.kind 0 0 (Some c.in-Some.check)) (λ e. Ok (records e)) c.in-Err.ensures)

pub returns-in-Ok-Some-clause-said : goal.returns-in-Ok-Some-clause-said
returns-in-Ok-Some-clause-said c =
    commit_told (commit_value c.in-Ok-Some.commit) c.args.text.now (rw c.in-Ok-Some.field-0-is at c.in-Ok-Some.ensures)
