-- What reading the lines of a run comes to.
use Rattle.std.specs.Prelude.{◌≡◌, ◌≢◌, ℕ, ◌+◌, ◌<◌, ◌≤◌, Bool, true, false, List, Option, Result, Ok, Err}
use Rattle.devices.specs.Given.{AreNext, OfBytes}
use Rattle.json_lines.specs.Json.{taken_line}
use Rattle.json_lines.specs.Reading.{line_count}
use Rattle.json_lines.specs.SoFar.{IsReadSoFar, lines_taken}
use Rattle.json_lines.specs.declared.next.LineReader.{LineReader}
use Rattle.json_lines.specs.declared.reading.TheConstants.{MAX_INPUT}
use Rattle.trace_lines.specs.Values.{TraceValue}
use Rattle.trace_lines.specs.declared.cause.Cause.TheVariants as causes
use Rattle.runs.specs.Kept.{KeptValue, kept_line, log_behind, next_kept}
use Rattle.audit.specs.Devices.{reads}
use Rattle.audit.specs.Parts.{LogRead}
use Rattle.audit.specs.Audit.{Says}
use Rattle.audit.specs.declared.plain.AuditFault.{AuditFault}

-- From `first` on a reader gave whole lines that make k of a log, and behind them bytes that are at hand.
abbrev pub IsKeptSoFar : {R : Type 0} → (R → List ℕ) → (R → ℕ) → (R → ℕ) → (R → Option (List ℕ)) → R → R → KeptValue
    → KeptValue → LineReader → Type 0
IsKeptSoFar given ends failures remaining first now start k r =
    IsReadSoFar given ends failures remaining (taken_line causes.NotJson kept_line) first now start k r

-- what an input says behind a log
abbrev pub IsSaidBehind : KeptValue → Says → Type 0
IsSaidBehind k says = (whole : Bool) (a : List ℕ) → says whole a ≡ log_behind k whole a

-- the log of the lines, where the last was taken, or the fault of one
abbrev pub log_by : KeptValue → Result Bool AuditFault → Result TraceValue AuditFault
log_by k (Ok more) = Ok k.log
log_by k (Err e) = Err e

-- What a call comes to that takes the next line of a run.
pub record TakesLine {R : Type 0} (given : R → List ℕ) (ends failures : R → ℕ) (remaining : R → Option (List ℕ))
    (old_reader new_reader : R) (old new : KeptValue) (old_lines new_lines : LineReader) (result : Result Bool AuditFault)
    : Type 0 where
  -- where a line follows, all before it were taken
  pub goes : result ≡ Ok true → (first : R) (start : KeptValue)
      → IsKeptSoFar given ends failures remaining first old_reader start old old_lines
      → IsKeptSoFar given ends failures remaining first new_reader start new new_lines
  pub next : result ≡ Ok true → (new_lines.number ≡ old_lines.number + 1) × (next_kept new ≤ new_lines.number)
  pub room : result ≡ Ok true → (new_lines.number + new_lines.room ≤ MAX_INPUT + 1) × (new_lines.room < old_lines.room)
  -- else the whole log was read, or a line is refused
  pub read : result ≢ Ok true → (first : R) (start : KeptValue)
      → IsKeptSoFar given ends failures remaining first old_reader start old old_lines
      → (says : Says) → IsSaidBehind start says
      → LogRead says (reads given ends failures remaining first new_reader) (log_by new result)
  -- behind the last line it counts them
  pub counted : result ≡ Ok false → (first : R) (start : KeptValue)
      → IsKeptSoFar given ends failures remaining first old_reader start old old_lines
      → OfBytes given first new_reader (λ a. lines_taken new_lines ≡ line_count a)
  -- what came is the next of what the reader had left, where that is known
  pub known : AreNext given ends remaining old_reader new_reader
