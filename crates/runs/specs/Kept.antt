-- A log that grows by the lines of a run: these have the numbers of the whole log, of which others came before.
use Rattle.std.specs.Prelude.{ℕ, ◌+◌, ◌-◌, Bool, List, Result, Ok, Err, refl}
use Rattle.std.specs.Coded.{Coded, code_by, coded×, coded_ℕ}
use Rattle.serde_json.specs.Data.{Data}
use Rattle.json_lines.specs.Json.{taken_line}
use Rattle.json_lines.specs.Reading.{cause_of, read_all}
use Rattle.json_lines.specs.declared.reading.LineFault.{LineFault}
use Rattle.trace_lines.specs.Causes.{of_input}
use Rattle.trace_lines.specs.TraceCode.{trace_code}
use Rattle.trace_lines.specs.Traces.{value_line}
use Rattle.trace_lines.specs.Values.{TraceValue, empty_trace, next_line}
use Rattle.trace_lines.specs.declared.cause.Cause.{Cause}
use Rattle.trace_lines.specs.declared.cause.Cause.TheVariants.{NotJson}
use Rattle.trace_lines.specs.declared.cause.TraceFault.{TraceFault}

-- how many lines of the whole log came before the run's, and the log so far
pub record KeptValue : Type 0 where
  pub lines : ℕ
  pub log : TraceValue

abbrev pub nothing_kept : KeptValue
nothing_kept = record { lines = 0; log = empty_trace }

abbrev pub kept_code : Coded KeptValue
kept_code = code_by (ℕ × TraceValue) (coded× coded_ℕ trace_code) (λ k. (k.lines, k.log))
    (λ p. record { lines = p.0; log = p.1 }) (λ _. refl)

-- the log, behind so many lines
abbrev pub kept_behind : {E : Type 0} → ℕ → Result TraceValue E → Result KeptValue E
kept_behind lines (Ok t) = Ok (record { lines = lines; log = t })
kept_behind lines (Err e) = Err e

-- what line number n of the run makes of the log
abbrev pub kept_line : ℕ → KeptValue → Data → Result KeptValue Cause
kept_line n k d = kept_behind k.lines (value_line (k.lines + n) k.log d)

-- the least number that a further line of the run may have
abbrev pub next_kept : KeptValue → ℕ
next_kept k = next_line k.log - k.lines

abbrev pub log_told : Result KeptValue (LineFault Cause) → Result TraceValue TraceFault
log_told (Ok k) = Ok k.log
log_told (Err e) = Err (record { line = e.line; cause = cause_of of_input e.stop })

-- The log that an input says behind those lines, or its first fault, by the line of the input. Whole says that the
-- input ended, and did not fail.
abbrev pub log_behind : KeptValue → Bool → List ℕ → Result TraceValue TraceFault
log_behind k whole input = log_told (read_all (taken_line NotJson kept_line) whole k input)
