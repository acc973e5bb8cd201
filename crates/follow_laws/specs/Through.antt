-- What `through N` claims of the log so far.
use Rattle.std.specs.Prelude.{ℕ, ◌<◌, ◌≤◌, List, Option, All}
use Rattle.trace_lines.specs.Values.{TraceValue}
use Rattle.evidence_check.specs.Steps.{StepValue}
use Rattle.windows.specs.Growth.{IsSettled}
use Rattle.follow_laws.specs.Told.{told_on}

-- all entries up to line n are settled, and nothing that is told at any line names one of them
pub record IsCleanThrough (t : TraceValue) (evidence : List (Option (List StepValue))) (n : ℕ) : Type 0 where
  pub settled : All (λ e. e.line ≤ n → IsSettled t e) t.entries
  pub untold : (k : ℕ) → All (λ f. n < f.line) (told_on t evidence k)
