-- What reading lines of a trace answered, told as a trace or as a fault of it.
use Rattle.std.proofs.Common.{◌≡◌, ℕ, Bool, ◌||◌, true, false, List, Option, Result, Ok, Err, sym, ap, refl, subst, ◌∙◌}
use Rattle.refusals.specs.Refusals.{Fails}
use Rattle.json_lines.specs.InputRead.{LinesRead}
use Rattle.json_lines.specs.Json.{taken_line}
use Rattle.json_lines.specs.Reading.{cause_of, read_all, IsOfSomeLine}
use Rattle.json_lines.specs.declared.reading.LineFault.{LineFault}
use Rattle.json_lines.proofs.InputReads.{answered}
use Rattle.json_lines.proofs.ReadFaults.{retold}
use Rattle.trace_lines.specs.Causes.{of_input, is_memory, is_read}
use Rattle.trace_lines.specs.TraceReads.{TraceRead}
use Rattle.trace_lines.specs.Traces.{faulted, value_line}
use Rattle.trace_lines.specs.Values.{TraceValue, empty_trace}
use Rattle.trace_lines.specs.declared.cause.Cause.{Cause}
use Rattle.trace_lines.specs.declared.cause.Cause.TheVariants as causes
use Rattle.trace_lines.specs.declared.cause.TraceFault.{TraceFault}
use Rattle.trace_lines.proofs.LineCauses.{readers_own}

-- a line of a trace, taken by a trace
abbrev pub trace_taken : ℕ → TraceValue → List ℕ → Result TraceValue Cause
trace_taken = taken_line causes.NotJson value_line

module _ {R T : Type 0} (given : R → List ℕ) (ends failures : R → ℕ) (remaining : R → Option (List ℕ)) (old new : R)
    (start now : TraceValue) (is_empty : start ≡ empty_trace) where
  -- all lines were taken
  pub trace_came : (t : T) → LinesRead given ends failures remaining trace_taken old new start now (Ok t)
      → TraceRead given ends failures remaining old new (Ok now)
  trace_came t read =
      answered _ _ _ _ _ _ _ _ given ends failures remaining old new t now
      (λ input is. ap faulted (ap (λ (s : TraceValue). read_all trace_taken true s input) (sym is_empty) ∙ is)) read

  -- a line was refused, or the input was
  pub trace_refused : (fault : LineFault Cause) (cause : Cause) → cause ≡ cause_of of_input fault.stop
      → IsOfSomeLine trace_taken fault
      → LinesRead {T = T} given ends failures remaining trace_taken old new start now (Err fault)
      → TraceRead given ends failures remaining old new (Err (record { line = fault.line; cause = cause }))
  trace_refused fault cause is some read =
      retold trace_taken of_input faulted is_open _ _ _ _ given ends failures remaining old new start now fault
      told (ap (λ (k : Cause). Err (record { line = fault.line; cause = k })) (sym is)) refl readers_own some
      (λ e. sym is ∙ e) (λ stop. is ∙ ap (cause_of of_input) stop) (λ h. rw (is, h) refl) (λ h. rw (is, h) refl)
      (λ input h. subst (λ (s : TraceValue). Fails is_open told (faulted (read_all trace_taken true s input))) is_empty h)
      (λ came h. subst (λ (s : TraceValue). faulted (read_all trace_taken false s came) ≡ Err told) is_empty h) read
    where
      is_open : TraceFault → Bool
      is_open e = is_memory e.cause || is_read e.cause

      told : TraceFault
      told = record { line = fault.line; cause = cause }
