use Rattle.trace_lines.proofs.TraceTold.{trace_came, trace_refused}
use Rattle.trace_lines.proofs.read.read_trace.Goals as goal

pub returns-in-Ok : goal.returns-in-Ok
returns-in-Ok g c =
    rw c.finish.ensures
    (trace_came g.R.Source.given g.R.Source.ends g.R.Source.failures g.R.Read.remaining c.args.reader.now
    c.read_lines.new.reader c.new-builder.result c.read_lines.new.value c.new-builder.ensures _ c.in-Ok.ensures.read)

pub returns-in-Err : goal.returns-in-Err
returns-in-Err g c =
    trace_refused g.R.Source.given g.R.Source.ends g.R.Source.failures g.R.Read.remaining c.args.reader.now
    c.read_lines.new.reader c.new-builder.result c.read_lines.new.value c.new-builder.ensures c.in-Err.fault _
    c.cause.ensures c.in-Err.ensures.told c.in-Err.ensures.read
