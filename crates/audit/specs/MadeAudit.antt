-- What an audit says on evidence that is made for its trace.
use Rattle.std.specs.Prelude.{◌≡◌, ◌⊎◌, ℕ, true, List, ◌++◌, Option, Some, Ok, slice_get, All, Contains, ⊤}
use Rattle.trace_lines.specs.Values.{TraceValue, EntryValue}
use Rattle.trace_lines.specs.Traces.{trace_of}
use Rattle.evidence_check.specs.Judged.{judged}
use Rattle.evidence_check.specs.Members.{IsRight, IsWrong}
use Rattle.evidence_check.specs.Steps.{StepValue}
use Rattle.evidence_check.specs.declared.judged.Judged.{Judged}
use Rattle.evidence_maker.specs.Made.{IsOutOfReach}
use Rattle.findings.specs.EachEntry.{SpeaksOfEachEntry}
use Rattle.findings.specs.Findings.{found_where, findings_of}
use Rattle.findings.specs.WrongReplies.{HasOnlyWrongRepliesNamed}
use Rattle.findings.specs.declared.finding.Finding.{Finding}
use Rattle.findings.specs.declared.finding.What.{What}
use Rattle.findings.specs.declared.finding.What.TheVariants.{NoEvidence, BadEvidence, Silent, WrongReply}
use Rattle.audit.specs.Devices.{Writing, FailsWriting}
use Rattle.audit.specs.Audit.{report_on, verdict_of}
use Rattle.audit.specs.Made.{IsMade, AreMade}
use Rattle.audit.specs.declared.shared.Found.{Found}
use Rattle.audit.specs.declared.plain.Verdict.{Verdict}

-- the judgement of an entry by steps that are made for it; or, where it is out of the maker's reach, maybe by none
abbrev pub IsJudgedMade : TraceValue → EntryValue → Judged → Type 0
IsJudgedMade t e j = (steps : Option (List StepValue)) × IsMade t e steps × (j ≡ judged t e steps)

-- what is found on entry i by steps that are made for it, or, where it is out of reach, maybe by none; and its line
abbrev pub IsFoundMade : TraceValue → ℕ → Found → Type 0
IsFoundMade t i found = (e : EntryValue) → slice_get t.entries i ≡ Some e
    → (j : Judged) × IsJudgedMade t e j × (found ≡ record { line = e.line; what = found_where t j i e })

-- the bytes say a trace, and P holds of it and of evidence that is made for it
abbrev pub OfMade : (TraceValue → List (Option (List StepValue)) → Type 0) → List ℕ → Type 0
OfMade P a =
    (t : TraceValue) × (given : List (Option (List StepValue)))
    × (trace_of true a ≡ Ok t) × AreMade t t.entries given × P t given

-- the report on it went out, and the verdict is its last line
abbrev pub AuditsMade : List ℕ → List ℕ → List ℕ → Verdict → Type 0
AuditsMade a old new v = OfMade (λ t given. (new ≡ old ++ report_on t given) × (v ≡ verdict_of (findings_of t given))) a

-- the report on it went out up to its first n bytes
abbrev pub BreaksMade : List ℕ → Writing → ℕ → Type 0
BreaksMade a out n = OfMade (λ t given. FailsWriting out n (report_on t given)) a

-- the bytes say a trace, and whatever evidence is made for it, P holds of the findings
abbrev pub WhateverIsMade : (TraceValue → List Finding → Type 0) → List ℕ → Type 0
WhateverIsMade P a =
    (t : TraceValue) × (trace_of true a ≡ Ok t)
    × ((given : List (Option (List StepValue))) → AreMade t t.entries given → P t (findings_of t given))

-- an entry that is out of the maker's reach stands on the line
pub record IsGivenUp (t : TraceValue) (line : ℕ) : Type 0 where
  pub place : ℕ
  pub entry : EntryValue
  pub at : slice_get t.entries place ≡ Some entry
  pub same : entry.line ≡ line
  pub given_up : IsOutOfReach t entry

-- evidence is told as missing only on the line of an entry that is out of reach, and as bad or silent nowhere
abbrev pub IsOfMaker : TraceValue → ℕ → What → Type 0
IsOfMaker t line NoEvidence = IsGivenUp t line
IsOfMaker t line (BadEvidence k) = ⊥
IsOfMaker t line Silent = ⊥
IsOfMaker t line _ = ⊤

-- so it is with each finding
abbrev pub AreOfMaker : TraceValue → List Finding → Type 0
AreOfMaker t findings = All (λ f. IsOfMaker t f.line f.what) findings

-- The reply of the entry is right; or it is wrong, and told as wrong; or the entry is out of the maker's reach, and
-- told to have no evidence.
abbrev pub IsAccountedFor : TraceValue → List Finding → EntryValue → Type 0
IsAccountedFor t findings e =
    IsRight t e
    ⊎ ((IsWrong t e × Contains findings (record { line = e.line; what = WrongReply }))
    ⊎ (IsOutOfReach t e × Contains findings (record { line = e.line; what = NoEvidence })))

-- so it is with each entry: a wrong reply that is not told as wrong is that of an entry out of reach, which is told
abbrev pub MissesNoWrongReply : TraceValue → List Finding → Type 0
MissesNoWrongReply t findings = All (IsAccountedFor t findings) t.entries

-- What holds of the findings whatever evidence is made for the trace that the bytes say, and whatever the verdict.
pub record SpeaksOfMade (a : List ℕ) : Type 0 where
  -- a reply that a finding F10 calls wrong is wrong
  pub wrong_replies : WhateverIsMade HasOnlyWrongRepliesNamed a
  -- of each entry by itself, what is wrong with it stands on its line
  pub entries : WhateverIsMade SpeaksOfEachEntry a
  -- F7 is found only on the line of an entry that is out of reach, and F8 and F9 nowhere
  pub given_up : WhateverIsMade AreOfMaker a
  -- The reply of each entry is what the rules mean; or it is wrong, and has an F10; or the entry is out of reach, and has
  -- an F7. So a wrong reply that has no F10 is that of an entry out of reach, and has an F7.
  pub complete : WhateverIsMade MissesNoWrongReply a
