-- A run over the lines of a log: what went out as they came, and what the run comes to.
use Rattle.std.specs.Prelude.{◌≡◌, ◌⊎◌, ℕ, true, false, List, [], ◌∷◌, ◌++◌, take, Result, Ok, Err, IfOk, IfErr, OnOk}
use Rattle.std.specs.List.{flat_map}
use Rattle.trace_lines.specs.Results.{FailsBy}
use Rattle.trace_lines.specs.Values.{TraceValue}
use Rattle.trace_lines.specs.declared.cause.Cause.TheVariants as causes
use Rattle.trace_lines.specs.declared.cause.TraceFault.{TraceFault}
use Rattle.findings.specs.Report.{line_text}
use Rattle.findings.specs.declared.finding.Finding.{Finding}
use Rattle.audit.specs.Audit.{BlamesOnly, BlamesNoDevice, Says, verdict_of}
use Rattle.audit.specs.Devices.{Reading, Writing, OfBytes, OfWhole, OfInput, GivesFew, GivesNext}
use Rattle.audit.specs.Devices.{ReaderFailed, ReaderNeverFailed, WriterFailed, WriterNeverFailed, StandsBehind}
use Rattle.audit.specs.declared.plain.Verdict.{Verdict}
use Rattle.audit.specs.declared.plain.AuditFault.{AuditFault}
use Rattle.audit.specs.declared.plain.AuditFault.TheVariants as faults
use Rattle.follow.specs.Heartbeats.{AreTrue}
use Rattle.follow.specs.Pieces.{Piece, text_of, told_in}

-- a log that begins with some lines is u: these alone say it, or whole lines and more behind them
abbrev pub GoesOnAs : Says → List ℕ → TraceValue → Type 0
GoesOnAs says lines u = (says true lines ≡ Ok u)
    ⊎ ((a more : List ℕ) × (lines ≡ a ++ 10 ∷ []) × (says true (lines ++ more) ≡ Ok u))

-- All of the bytes say a log, and the end of the text tells the rest of what is told, behind what was told as the
-- lines came; and behind it some last lines, of which the verdict is one. The heartbeats are true of the whole.
pub record Ends (says : Says) (TellsAll : TraceValue → List Finding → List Finding → Type 0)
    (last : TraceValue → List Finding → List ℕ) (a : List ℕ) (pieces : List Piece) (ending : List ℕ) (v : Verdict)
    : Type 0 where
  pub trace : TraceValue
  pub said : says true a ≡ Ok trace
  pub rest : List Finding
  pub all : TellsAll trace (told_in pieces) rest
  pub beats : AreTrue trace pieces rest
  pub text : ending ≡ flat_map line_text rest ++ last trace (told_in pieces ++ rest)
  pub verdict : v ≡ verdict_of (told_in pieces ++ rest)

-- Some first bytes of such a text went out. Each finding that was told as the lines came is told of the lines so far, and
-- each heartbeat is true of these and of each longer log; an end was told of the whole log alone.
pub record WentOut (says : Says) (IsToldOf : List ℕ → List Finding → Type 0)
    (Ends : List ℕ → List Piece → List ℕ → Verdict → Type 0) (came old new : List ℕ) : Type 0 where
  pub pieces : List Piece
  pub ending : List ℕ
  pub bytes : ℕ
  pub went : new ≡ old ++ take bytes (text_of pieces ++ ending)
  pub lines : List ℕ
  pub rest : List ℕ
  pub among : came ≡ lines ++ rest
  pub told : IsToldOf lines (told_in pieces)
  pub beats : (u : TraceValue) → GoesOnAs says lines u → AreTrue u pieces []
  pub ends : (ending ≡ []) ⊎ ((v : Verdict) × Ends came pieces ending v)

-- The lines of a reader were followed to their end, or a fault stopped that. Follows says what went out of the whole
-- input, and Stands what did under a fault.
pub record Run {V : Type 0} (says : Says) (Follows : List ℕ → List ℕ → List ℕ → V → Type 0)
    (Stands : List ℕ → List ℕ → List ℕ → Type 0) (trace : Reading) (out : Writing) (result : Result V AuditFault)
    : Type 0 where
  -- with an answer all that the reader gave, to its end, was followed
  pub follows : IfOk result (λ v. OfWhole trace (λ a. Follows a out.before.taken out.after.taken v))
  -- under any fault: what went out is told of the lines that had come
  pub stands : IfErr result (λ e. OfBytes trace (λ came. Stands came out.before.taken out.after.taken))
  -- a refusal holds of every input that begins with the bytes that came
  pub trace_refused : (f : TraceFault) → result ≡ Err (faults.Trace f)
      → OfInput trace (λ a. FailsBy f.cause f (says true a))
  -- where a reader failed (the flag false), the fault is of the line that its bytes had come to
  pub trace_cut : (f : TraceFault) → result ≡ Err (faults.Trace f) → f.cause ≡ causes.Read
      → OfBytes trace (λ a. says false a ≡ Err f)
  -- at most 2^30 + 65,536 bytes came, also from a reader that never ends
  pub most : GivesFew trace
  -- of devices in memory: what came is the next of what a reader had left, and all of it where the reader was at its
  -- end; and what went out stands behind what the writer held
  pub known : GivesNext trace
  pub held : StandsBehind out
  -- A device is blamed only where it failed, the writer also where it took none of some bytes. An answer, and a fault
  -- that blames no device, come only where no device did so.
  pub devices : IfErr result (BlamesOnly ⊥ (ReaderFailed trace) ⊥ (WriterFailed out))
  pub kept : OnOk result (ReaderNeverFailed trace × WriterNeverFailed out)
  pub unfailed : IfErr result (λ e. BlamesNoDevice e → ReaderNeverFailed trace × WriterNeverFailed out)
