-- What reading the lines of a run answered, told as a log or as a fault of it.
use Rattle.std.proofs.Common.{◌≡◌, ℕ, Bool, ◌||◌, true, false, List, Option, Result, Ok, Err, refl, sym, ap, ◌∙◌, subst}
use Rattle.std.specs.Result.{IsErrAnd}
use Rattle.json_lines.specs.InputRead.{LinesRead}
use Rattle.json_lines.specs.Reading.{cause_of, IsOfSomeLine}
use Rattle.json_lines.specs.declared.reading.LineFault.{LineFault}
use Rattle.json_lines.proofs.InputReads.{answered}
use Rattle.json_lines.proofs.ReadFaults.{retold}
use Rattle.trace_lines.specs.Causes.{of_input, is_memory, is_read}
use Rattle.trace_lines.specs.Values.{TraceValue}
use Rattle.trace_lines.specs.declared.cause.Cause.{Cause}
use Rattle.trace_lines.specs.declared.cause.TraceFault.{TraceFault}
use Rattle.runs.specs.Kept.{KeptValue, log_told}
use Rattle.runs.proofs.KeptReadLemmas.{kept_own, kept_taken}
use Rattle.audit.specs.Devices.{reads}
use Rattle.audit.specs.Faults.{TellsTraceFault}
use Rattle.audit.specs.declared.plain.AuditFault.{AuditFault}
use Rattle.refusals.specs.Refusals.{Fails}
use Rattle.follow.specs.Reading.{IsSaidBehind}
use Rattle.audit.specs.Parts.{LogRead}
use Rattle.audit.specs.Audit.{Says}
use Rattle.audit.proofs.TracesRead.{log_given, log_refused}

module _ {R : Type 0} (given : R → List ℕ) (ends failures : R → ℕ) (remaining : R → Option (List ℕ)) (old new : R) where
  module _ {T : Type 0} (start now : KeptValue) (says : Says) (means : IsSaidBehind start says) where
    -- all lines were taken
    pub log_came : (t : T) → LinesRead given ends failures remaining kept_taken old new start now (Ok t)
        → LogRead says (reads given ends failures remaining old new) (Ok now.log)
    log_came t read =
        log_given given ends failures remaining old new says now.log
        (answered _ _ _ _ _ _ _ _ given ends failures remaining old new t now.log
        (λ input is. means true input ∙ ap log_told is) read)

    -- a line was refused, or the input was
    pub line_refused : (fault : LineFault Cause) (cause : Cause) → cause ≡ cause_of of_input fault.stop
        → IsOfSomeLine kept_taken fault
        → LinesRead {T = T} given ends failures remaining kept_taken old new start now (Err fault)
        → (answer : Result TraceValue AuditFault) → IsErrAnd answer (TellsTraceFault (record { line = fault.line; cause = cause }))
        → LogRead says (reads given ends failures remaining old new) answer
    line_refused fault cause is some read answer tells =
        log_refused given ends failures remaining old new says told answer tells
        (retold kept_taken of_input log_told is_open _ _ _ _ given ends failures remaining old new start now fault
        told (ap (λ (k : Cause). Err (record { line = fault.line; cause = k })) (sym is)) refl kept_own some
        (λ e. sym is ∙ e) (λ stop. is ∙ ap (cause_of of_input) stop) (λ h. rw (is, h) refl) (λ h. rw (is, h) refl)
        (λ input h. subst (λ (r : Result TraceValue TraceFault). Fails is_open told r) (sym (means true input)) h)
        (λ came h. means false came ∙ h) read)
      where
        is_open : TraceFault → Bool
        is_open e = is_memory e.cause || is_read e.cause

        told : TraceFault
        told = record { line = fault.line; cause = cause }
