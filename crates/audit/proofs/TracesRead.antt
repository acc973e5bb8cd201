-- What reading a trace tells, as a call of an audit tells it.
use Rattle.std.proofs.Common.{◌≡◌, ℕ, true, false, List, Option, Result, Ok, Err, subst, sym}
use Rattle.std.specs.Result.{IsErrAnd}
use Rattle.devices.proofs.Given.{of_ended}
use Rattle.json_lines.specs.InputRead.{InputRead}
use Rattle.trace_lines.specs.Results.{FailsBy, GivesTrace}
use Rattle.trace_lines.specs.TraceReads as lines
use Rattle.trace_lines.specs.Traces.{trace_of}
use Rattle.trace_lines.specs.Values.{TraceValue}
use Rattle.trace_lines.specs.declared.cause.Cause.TheVariants as causes
use Rattle.trace_lines.specs.declared.cause.TraceFault.{TraceFault}
use Rattle.audit.specs.Devices.{reads, OfInput, OfBytes}
use Rattle.audit.specs.Faults.{TellsTraceFault}
use Rattle.audit.specs.Audit.{Says}
use Rattle.audit.specs.Parts.{LogRead, TraceRead}
use Rattle.audit.specs.declared.plain.AuditFault.{AuditFault}

module _ {R : Type 0} (given : R → List ℕ) (ends failures : R → ℕ) (remaining : R → Option (List ℕ)) (old new : R) where
  -- an input was read that says a log, or a fault of one was answered
  abbrev pub InputSays : Says → Result TraceValue TraceFault → Type 0
  InputSays says result =
      InputRead (λ e. e.cause ≡ causes.Read) (λ e. e.line) (λ r input. GivesTrace r (says true input))
      (λ e came. says false came ≡ Err e) given ends failures remaining old new result

  pub log_given : (says : Says) (t : TraceValue) → InputSays says (Ok t)
      → LogRead says (reads given ends failures remaining old new) (Ok t)
  log_given says t read =
      record {
        given = of_ended given ends old new (λ a. says true a ≡ Ok t) read.ended read.exact;
        refused = λ f is. absurd (cc (is));
        cut = λ f is. absurd (cc (is));
        most = read.most;
        known = read.known;
        failed = λ f is. absurd (cc (is));
        kept = read.kept;
        unfailed = tt;
        kinds = tt;
      }

  pub log_refused : (says : Says) (fault : TraceFault) (answer : Result TraceValue AuditFault)
      → IsErrAnd answer (TellsTraceFault fault) → InputSays says (Err fault)
      → LogRead says (reads given ends failures remaining old new) answer
  log_refused says fault (Ok t) told read = absurd told
  log_refused says fault (Err answer) told read =
      record {
        given = tt;
        refused =
            λ f is. subst (λ (x : TraceFault). OfInput (reads given ends failures remaining old new)
            (λ a. FailsBy x.cause x (says true a))) (sym (told.same f (cc (is)))) read.exact;
        cut =
            λ f is by. subst (λ (x : TraceFault). OfBytes (reads given ends failures remaining old new)
            (λ a. says false a ≡ Err x)) (sym (told.same f (cc (is))))
            (read.failed (subst (λ (x : TraceFault). x.cause ≡ causes.Read) (told.same f (cc (is))) by));
        most = read.most;
        known = read.known;
        failed =
            λ f is by. read.counted (subst (λ (x : TraceFault). x.cause ≡ causes.Read) (told.same f (cc (is))) by);
        kept = tt;
        unfailed = λ none. read.unfailed (told.device none);
        kinds = told.kinds;
      }

  pub trace_given : (t : TraceValue) → lines.TraceRead given ends failures remaining old new (Ok t)
      → TraceRead (reads given ends failures remaining old new) (Ok t)
  trace_given = log_given trace_of

  pub trace_refused : (fault : TraceFault) (answer : Result TraceValue AuditFault)
      → IsErrAnd answer (TellsTraceFault fault) → lines.TraceRead given ends failures remaining old new (Err fault)
      → TraceRead (reads given ends failures remaining old new) answer
  trace_refused = log_refused trace_of
