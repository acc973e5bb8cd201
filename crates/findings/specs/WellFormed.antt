-- What the laws on findings ask of a trace. Each trace that bytes say has it, and it speaks of no number of bytes.
use Rattle.std.specs.Prelude.{ℕ}
use Rattle.std.specs.List.Sorted.{IsStrictlyIncreasing}
use Rattle.trace_lines.specs.Values.{TraceValue, entry_lines}
use Rattle.trace_lines.specs.Versions.{AreIssuedOnce}
use Rattle.evidence_check.specs.Laws.{HasValidStrataAt}

-- the lines of entries rise, each version is issued once, and strata are valid at each timestamp
pub record IsWellFormed (t : TraceValue) : Type 0 where
  pub lines : IsStrictlyIncreasing (entry_lines t.entries)
  pub versions : AreIssuedOnce t.entries
  pub strata : (at : ℕ) → HasValidStrataAt t at
