-- What was told of the lines so far.
use Rattle.std.specs.Prelude.{◌≡◌, ℕ, List, Option, Ok, true}
use Rattle.trace_lines.specs.Traces.{trace_of}
use Rattle.trace_lines.specs.Values.{TraceValue}
use Rattle.evidence_check.specs.Steps.{StepValue}
use Rattle.findings.specs.declared.finding.Finding.{Finding}
use Rattle.audit.specs.Audit.{Says}
use Rattle.audit.specs.Made.{IsMade}
use Rattle.follow_laws.specs.Told.{told_before, told_between}
use Rattle.carry_laws.specs.Asked.{asked}
use Rattle.carry_laws.specs.declared.known.Known.{Known}
use Rattle.monitor.specs.SoFar.{AreAllowedBetween}

-- The lines say a trace, and this is what is told at the first of its lines (`told_before`), by steps that are made
-- for each entry that they settle. So it is true of each longer log (`follow_laws::laws::told_is_true`).
pub record IsToldOf (lines : List ℕ) (told : List Finding) : Type 0 where
  pub trace : TraceValue
  pub said : trace_of true lines ≡ Ok trace
  pub given : List (Option (List StepValue))
  pub line : ℕ
  pub made : AreAllowedBetween IsMade trace 0 line given
  pub is : told ≡ told_before trace given line

-- The lines say a log, and this is what is told from its line `first` on at the lines that came, on entries that are
-- audited by what is known, by steps that are made for each entry that is settled there.
pub record IsToldFrom (says : Says) (first : ℕ) (known : Known) (lines : List ℕ) (told : List Finding) : Type 0 where
  pub trace : TraceValue
  pub said : says true lines ≡ Ok trace
  pub given : List (Option (List StepValue))
  pub line : ℕ
  pub made : AreAllowedBetween IsMade trace first line given
  pub is : told ≡ asked known trace (told_between trace given first line)
