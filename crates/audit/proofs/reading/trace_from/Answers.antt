use Rattle.audit.proofs.TracesRead.{trace_given}
use Rattle.audit.proofs.reading.trace_from.Goals as goal

pub returns : goal.returns
returns g c =
    trace_given g.R.Source.given g.R.Source.ends g.R.Source.failures g.R.Read.remaining _ _ _ c.in_ok-read_trace.ensures
