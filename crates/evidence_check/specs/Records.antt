-- What is read so far.
use Rattle.std.specs.Prelude.{ℕ, List, Option}
use Rattle.trace_lines.specs.Values.{TraceValue}
use Rattle.evidence_check.specs.Steps.{StepValue}
use Rattle.evidence_check.specs.declared.judged.Judged.{Judged}

-- the lines of the entries, and the steps that were given for each
pub record Records : Type 0 where
  pub lines : List ℕ
  pub steps : List (Option (List StepValue))

-- the trace, the lines of its entries, and how each is judged
pub record Judgements : Type 0 where
  pub trace : TraceValue
  pub lines : List ℕ
  pub judgements : List Judged
