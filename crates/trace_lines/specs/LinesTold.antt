-- What a line of a trace says by itself, by its bytes, and what that makes of the trace.
use Rattle.std.specs.Prelude.{ℕ, List, Option, None, Some, Result, Ok, if◌then◌else◌}
use Rattle.refusals.specs.Refusals.{◌>>=◌}
use Rattle.json_lines.specs.Json.{is_blank, json_line}
use Rattle.trace_lines.specs.LineValues.{LineValue, line_said, put_line}
use Rattle.trace_lines.specs.Values.{TraceValue}
use Rattle.trace_lines.specs.declared.cause.Cause.{Cause}
use Rattle.trace_lines.specs.declared.cause.Cause.TheVariants as causes

-- what a line says: nothing where it is blank
unfoldable pub line_told : List ℕ → Result (Option LineValue) Cause
line_told line =
    if is_blank line then Ok None
    else json_line causes.NotJson (λ d. line_said line d >>= λ l. Ok (Some l)) line

abbrev pub put_told : ℕ → TraceValue → Option LineValue → Result TraceValue Cause
put_told n t None = Ok t
put_told n t (Some l) = put_line n t l
