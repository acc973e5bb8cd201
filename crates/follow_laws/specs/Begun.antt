-- A log so far, and a longer log that begins with it.
use Rattle.std.specs.Prelude.{ℕ}
use Rattle.trace_lines.specs.Values.{TraceValue}
use Rattle.findings.specs.WellFormed.{IsWellFormed}
use Rattle.windows.specs.Growth.{GoesOn, HasRisingLines}

-- what holds of each trace that bytes say
pub record IsOfBytes (t : TraceValue) : Type 0 where
  pub rising : HasRisingLines t
  pub formed : IsWellFormed t

-- The first k lines of the log of u say t.
pub record Begins (k : ℕ) (t u : TraceValue) : Type 0 where
  pub goes : GoesOn k t u
  pub first : IsOfBytes t
  pub whole : IsOfBytes u
