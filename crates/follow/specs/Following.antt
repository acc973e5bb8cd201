-- What following a trace comes to.
use Rattle.std.specs.Prelude.{◌≡◌, ℕ, List, [], ◌++◌, length, Result, Ok, OnOk}
use Rattle.trace_lines.specs.Traces.{trace_of}
use Rattle.findings.specs.Headline.{IsTraceRightAndFresh}
use Rattle.findings.specs.Report.{last_lines}
use Rattle.monitor.specs.Whole.{TellsAll}
use Rattle.audit.specs.Devices.{Reading, Writing, OfWhole}
use Rattle.audit.specs.Made.{IsMade}
use Rattle.audit.specs.MadeAudit.{SpeaksOfMade}
use Rattle.audit.specs.declared.plain.Verdict.{Verdict}
use Rattle.audit.specs.declared.plain.Verdict.TheVariants.{Clean}
use Rattle.audit.specs.declared.plain.AuditFault.{AuditFault}
use Rattle.follow.specs.Pieces.{Piece, text_of}
use Rattle.follow.specs.Running as running
use Rattle.follow.specs.Running.{Run}
use Rattle.follow.specs.Told.{IsToldOf}

-- What was told is what is told of the trace line by line and at its end, by evidence that is made, and what is found on
-- it by that, each finding once; and behind it stand the report's last lines.
abbrev pub Ends : List ℕ → List Piece → List ℕ → Verdict → Type 0
Ends = running.Ends trace_of (λ t told rest. TellsAll IsMade t [] (told ++ rest)) (λ t told. last_lines told (length t.entries))

-- what was told as the lines came went out, with heartbeats between, and the end of the text
abbrev pub Follows : List ℕ → List ℕ → List ℕ → Verdict → Type 0
Follows a old new v =
    (pieces : List Piece) × (ending : List ℕ) × Ends a pieces ending v × (new ≡ old ++ (text_of pieces ++ ending))

-- some first bytes of such a text went out
abbrev pub WentOut : List ℕ → List ℕ → List ℕ → Type 0
WentOut = running.WentOut trace_of IsToldOf Ends

-- A trace was followed.
pub record Followed (trace : Reading) (out : Writing) (result : Result Verdict AuditFault) : Type 0 where
  pub run : Run trace_of Follows WentOut trace out result
  -- a clean verdict says of the trace what that of an audit says
  pub headline : result ≡ Ok Clean → OfWhole trace IsTraceRightAndFresh
  -- whatever the verdict: what holds of the findings whatever evidence is made, and so of what was told
  pub made : OnOk result (OfWhole trace SpeaksOfMade)
