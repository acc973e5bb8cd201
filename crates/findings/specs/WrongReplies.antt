-- What a finding F10 says, whatever the verdict.
use Rattle.std.specs.Prelude.{◌≡◌, ℕ, List, Option, true, Ok, All, Contains}
use Rattle.trace_lines.specs.Traces.{trace_of}
use Rattle.trace_lines.specs.Values.{TraceValue}
use Rattle.evidence_check.specs.Reading.{evidence_of}
use Rattle.evidence_check.specs.Members.{IsWrong}
use Rattle.evidence_check.specs.Steps.{StepValue}
use Rattle.findings.specs.Findings.{findings_of}
use Rattle.findings.specs.declared.finding.Finding.{Finding}
use Rattle.findings.specs.declared.finding.What.TheVariants.{WrongReply}

-- each entry of which the findings say so has a wrong reply
abbrev pub HasOnlyWrongRepliesNamed : TraceValue → List Finding → Type 0
HasOnlyWrongRepliesNamed t findings =
    All (λ e. Contains findings (record { line = e.line; what = WrongReply }) → IsWrong t e) t.entries

-- the bytes say a trace and evidence for it, and of the findings on them that holds
abbrev pub NamesOnlyWrongReplies : List ℕ → List ℕ → Type 0
NamesOnlyWrongReplies a b =
    (t : TraceValue) × (given : List (Option (List StepValue))) × (trace_of true a ≡ Ok t)
    × (evidence_of t.entries true b ≡ Ok given)
    × HasOnlyWrongRepliesNamed t (findings_of t given)
