use Rattle.std.proofs.Common.{Ok, Err}
use Rattle.line_blocks.proofs.Alike.{told}
use Rattle.trace_lines.proofs.TraceTold.{trace_came, trace_refused, trace_taken}
use Rattle.trace_lines.proofs.LinesOfTrace.{as_trace}
use Rattle.trace_lines.proofs.read_by.read_trace_by.Goals as goal

pub returns-in-Ok : goal.returns-in-Ok
returns-in-Ok g c =
    rw c.finish.ensures
    (trace_came g.R.Source.given g.R.Source.ends g.R.Source.failures g.R.Read.remaining c.args.reader.now
    c.read_blocks.new.reader c.new-builder.result c.read_blocks.new.value c.new-builder.ensures _
    (as_trace g.R.Source.given g.R.Source.ends g.R.Source.failures g.R.Read.remaining c.args.reader.now
    c.read_blocks.new.reader c.new-builder.result c.read_blocks.new.value (Ok c.in-Ok.field-0) c.in-Ok.ensures))

pub returns-in-Err : goal.returns-in-Err
returns-in-Err g c =
    let read =
    as_trace g.R.Source.given g.R.Source.ends g.R.Source.failures g.R.Read.remaining c.args.reader.now
    c.read_blocks.new.reader c.new-builder.result c.read_blocks.new.value (Err c.in-Err.fault) c.in-Err.ensures in
    trace_refused g.R.Source.given g.R.Source.ends g.R.Source.failures g.R.Read.remaining c.args.reader.now
    c.read_blocks.new.reader c.new-builder.result c.read_blocks.new.value c.new-builder.ensures c.in-Err.fault _
    c.cause.ensures
    (told g.R.Source.given g.R.Source.ends g.R.Source.failures g.R.Read.remaining trace_taken c.args.reader.now
    c.read_blocks.new.reader c.new-builder.result c.read_blocks.new.value c.in-Err.fault read) read
