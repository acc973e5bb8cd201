-- What a monitor tells of a whole trace.
use Rattle.std.specs.Prelude.{◌≡◌, List, ◌++◌, Option, IsPermutation}
use Rattle.std.specs.List.{AllZip}
use Rattle.trace_lines.specs.Values.{EntryValue, TraceValue}
use Rattle.evidence_check.specs.Steps.{StepValue}
use Rattle.findings.specs.Findings.{findings_of}
use Rattle.findings.specs.declared.finding.Finding.{Finding}
use Rattle.follow_laws.specs.Told.{all_told}

-- The findings are those from before, and what is told of the trace at each of its lines, one behind the other, and at
-- its end (`all_told`), by steps that may be those for its entries. That is what is found on it by these, each finding
-- once.
pub record TellsAll (Allows : TraceValue → EntryValue → Option (List StepValue) → Type 0) (t : TraceValue)
    (old new : List Finding) : Type 0 where
  -- for each entry, in order
  pub given : List (Option (List StepValue))
  pub allowed : AllZip (Allows t) t.entries given
  pub told : new ≡ old ++ all_told t given
  pub once : IsPermutation (all_told t given) (findings_of t given)
