use Rattle.std.proofs.Common.{rules}
use Rattle.json_lines.proofs.JsonLines.{fails_then}
use Rattle.trace_lines.specs.Causes.{is_memory}
use Rattle.trace_lines.specs.LineValues.{line_of_text, put_line}
use Rattle.trace_lines.specs.LineViews.{line_value}
use Rattle.trace_lines.proofs.LineSplits.{text_splits}
use Rattle.trace_lines.proofs.RisingLines.{put_further}
use Rattle.trace_lines.proofs.builder.TraceBuilderTakeJson.take.Goals as goal

pub returns-in_err-line-clause-answer : goal.returns-in_err-line-clause-answer
returns-in_err-line-clause-answer c =
    let told = fails_then is_memory _ (line_of_text c.args.text.now) (put_line c.args.number c.args.self.now) c.in_err-line.ensures.said in
    rw (text_splits c.args.number c.args.self.now c.args.text.now) (search rules)

pub returns-clause-answer : goal.returns-clause-answer
returns-clause-answer c =
    rw (text_splits c.args.number c.args.self.now c.args.text.now, c.in_ok-line.ensures.said) c.put.ensures

pub returns-clause-further : goal.returns-clause-further
returns-clause-further c =
    put_further c.args.number c.args.self.now c.put.new.self (line_value c.in_ok-line.line) c.put.result c.requires
    c.put.ensures
