-- What a function answered of a trace.
use Rattle.std.specs.Prelude.{◌≡◌, ◌||◌, Result, Err}
use Rattle.refusals.specs.Refusals.{Unless, Gives}
use Rattle.trace_lines.specs.Values.{TraceValue}
use Rattle.trace_lines.specs.Causes.{is_memory, is_read}
use Rattle.trace_lines.specs.declared.cause.Cause.{Cause}
use Rattle.trace_lines.specs.declared.cause.TraceFault.{TraceFault}

-- a fault that was answered is the one that the input gives, unless memory ran out or the reader failed
abbrev pub FailsBy : Cause → TraceFault → Result TraceValue TraceFault → Type 0
FailsBy cause e read = Unless (is_memory cause || is_read cause) (read ≡ Err e)

abbrev pub GivesTrace : Result TraceValue TraceFault → Result TraceValue TraceFault → Type 0
GivesTrace result read = Gives (λ e. is_memory e.cause || is_read e.cause) (λ t. t) result read
