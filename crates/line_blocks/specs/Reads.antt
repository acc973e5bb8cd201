-- What the lines of bytes lead to, or stop at.
use Rattle.std.specs.Prelude.{◌≡◌, ◌≢◌, ℕ, ◌+◌, ◌≤◌, Bool, true, List, ◌++◌, length, Result, Ok, Err}
use Rattle.json_lines.specs.Lines.{lacks}
use Rattle.json_lines.specs.Reading.{parts, read_from, Fails}
use Rattle.json_lines.specs.declared.lines.InputFault.TheVariants.{Read}
use Rattle.json_lines.specs.declared.reading.LineFault.{LineFault}
use Rattle.json_lines.specs.declared.reading.Stop.TheVariants.{Input}
use Rattle.line_blocks.specs.declared.reading.Place.{Place}

-- Bytes say nothing more than where they lead to does: to another place, and another value.
pub record LeadsTo {S C : Type 0} (taken : ℕ → S → List ℕ → Result S C) (from : Place) (s : S) (bytes : List ℕ)
    (to : Place) (t : S) : Type 0 where
  pub same : (whole : Bool) (ys : List ℕ)
      → read_from taken whole from.number from.room s (parts (bytes ++ ys)) ≡ read_from taken whole to.number to.room
      t (parts ys)
  pub counted : (ys : List ℕ) → length (parts (bytes ++ ys)) + from.number ≡ to.number + length (parts ys)
  pub room : length bytes + to.room ≡ from.room

-- the fault is one that bytes give, or of memory, whatever stands behind them
pub record StopsAt {S C : Type 0} (taken : ℕ → S → List ℕ → Result S C) (from : Place) (s : S) (bytes : List ℕ)
    (e : LineFault C) : Type 0 where
  pub fails : (ys : List ℕ) → Fails e.stop e (read_from taken true from.number from.room s (parts (bytes ++ ys)))
  pub begins : from.number ≤ e.line
  pub line : (ys : List ℕ) → e.line + 1 ≤ from.number + length (parts (bytes ++ ys))
  pub of_no_reader : e.stop ≢ Input Read

-- what was answered, and made of the value, by whole lines
abbrev pub TakesWhole : {S C : Type 0} → (ℕ → S → List ℕ → Result S C) → Place → S → List ℕ
    → Result Place (LineFault C) → S → Type 0
TakesWhole taken from s lines (Ok to) t = LeadsTo taken from s lines to t
TakesWhole taken from s lines (Err e) t = StopsAt taken from s lines e

-- by the whole lines that bytes begin with, and what was left behind them
abbrev pub TakesLines : {S C : Type 0} → (ℕ → S → List ℕ → Result S C) → Place → S → List ℕ
    → Result Place (LineFault C) → List ℕ → S → Type 0
TakesLines taken from s bytes (Ok to) left t =
    (lines : List ℕ) × (bytes ≡ lines ++ left) × (lacks left ≡ true) × LeadsTo taken from s lines to t
TakesLines taken from s bytes (Err e) left t = StopsAt taken from s bytes e
