-- What reading a trace comes to.
use Rattle.std.specs.Prelude.{◌≡◌, ℕ, true, false, List, Option, Result, Err}
use Rattle.json_lines.specs.InputRead.{InputRead}
use Rattle.trace_lines.specs.Results.{GivesTrace}
use Rattle.trace_lines.specs.Traces.{trace_of}
use Rattle.trace_lines.specs.Values.{TraceValue}
use Rattle.trace_lines.specs.declared.cause.Cause.TheVariants.{Read}
use Rattle.trace_lines.specs.declared.cause.TraceFault.{TraceFault}

-- A trace was read from a reader, or the first line that is refused was answered, and why.
abbrev pub TraceRead : {R : Type 0} → (R → List ℕ) → (R → ℕ) → (R → ℕ) → (R → Option (List ℕ)) → R → R
    → Result TraceValue TraceFault → Type 0
TraceRead given ends failures remaining old new result =
    InputRead (λ e. e.cause ≡ Read) (λ e. e.line) (λ r input. GivesTrace r (trace_of true input))
    (λ e came. trace_of false came ≡ Err e) given ends failures remaining old new result
