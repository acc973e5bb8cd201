-- What is made of a trace: for each entry a record of steps, or, where it is out of the maker's reach, maybe none; and
-- the text of the records.
use Rattle.std.specs.Prelude.{◌≡◌, ◌⊎◌, ℕ, ◌≤◌, ◌^◌, true, List, [], ◌∷◌, ◌++◌, length, Option, None, Some, Ok}
use Rattle.std.specs.List.{AllZip}
use Rattle.trace_lines.specs.Values.{TraceValue, EntryValue}
use Rattle.trace_lines.specs.Traces.{trace_of}
use Rattle.evidence_check.specs.Judged.{judged}
use Rattle.evidence_check.specs.Reading.{fact_count, evidence_of}
use Rattle.evidence_check.specs.Steps.{StepValue}
use Rattle.evidence_check.specs.declared.judged.Judged.TheVariants.{Supported, Contradicted}
use Rattle.evidence_check.specs.declared.records.TheConstants.{MAX_FACTS}
use Rattle.record_text.specs.Record.{record_text, record_length}
use Rattle.evidence_maker.specs.Made.{IsOutOfReach}
use Rattle.audit.specs.Devices.{Writing, FailsWriting}

-- by the steps the entry is supported or contradicted
abbrev pub IsDecided : TraceValue → EntryValue → List StepValue → Type 0
IsDecided t e steps = (judged t e (Some steps) ≡ Supported) ⊎ (judged t e (Some steps) ≡ Contradicted)

-- the steps decide the entry, and their record for its line is within the limits of evidence
pub record IsRecorded (t : TraceValue) (e : EntryValue) (steps : List StepValue) : Type 0 where
  pub decided : IsDecided t e steps
  pub facts : fact_count steps ≤ MAX_FACTS
  pub bytes : record_length e.line steps ≤ 2 ^ 20

-- what is made for an entry: the steps of its record; or, where it is out of the maker's reach, maybe none
abbrev pub IsMade : TraceValue → EntryValue → Option (List StepValue) → Type 0
IsMade t e (Some steps) = IsRecorded t e steps
IsMade t e None = IsOutOfReach t e

-- that of each entry, in order
abbrev pub AreMade : TraceValue → List EntryValue → List (Option (List StepValue)) → Type 0
AreMade t es given = AllZip (IsMade t) es given

-- the record of the steps for the entry on a line, and a newline; nothing where there are no steps
abbrev pub record_line : ℕ → Option (List StepValue) → List ℕ
record_line line (Some steps) = record_text line steps ++ 10 ∷ []
record_line line None = []

-- the line, where there are no steps
abbrev pub line_without : ℕ → Option (List StepValue) → List ℕ
line_without line (Some steps) = []
line_without line None = line ∷ []

-- what is told of each entry by its line and its steps, in order
abbrev pub told_of_each : (ℕ → Option (List StepValue) → List ℕ)
    → List EntryValue → List (Option (List StepValue)) → List ℕ
told_of_each tell (e ∷ es) (o ∷ os) = tell e.line o ++ told_of_each tell es os
told_of_each tell _ _ = []

-- the records of the entries that have one
abbrev pub records_text : List EntryValue → List (Option (List StepValue)) → List ℕ
records_text es given = told_of_each record_line es given

-- the lines of the entries that have none
abbrev pub given_up_lines : List EntryValue → List (Option (List StepValue)) → List ℕ
given_up_lines es given = told_of_each line_without es given

-- The text is the records that are made for the entries, and these lines are those of the entries without one. Read
-- as evidence for the trace, where it is no longer than an input may be, it says just these steps.
abbrev pub AreRecords : TraceValue → List ℕ → List ℕ → Type 0
AreRecords t text lines =
    (given : List (Option (List StepValue))) × AreMade t t.entries given
    × (text ≡ records_text t.entries given) × (lines ≡ given_up_lines t.entries given)
    × (length text ≤ 2 ^ 30 → evidence_of t.entries true text ≡ Ok given)

-- the bytes say a trace, and the records that are made for it went out
abbrev pub MakesRecords : List ℕ → List ℕ → List ℕ → List ℕ → Type 0
MakesRecords a old new lines =
    (t : TraceValue) × (trace_of true a ≡ Ok t) × (text : List ℕ) × AreRecords t text lines × (new ≡ old ++ text)

-- the bytes say a trace, and the records that are made for it went out up to their first n bytes
abbrev pub BreaksMaking : List ℕ → Writing → ℕ → Type 0
BreaksMaking a out n =
    (t : TraceValue) × (trace_of true a ≡ Ok t) × (text : List ℕ) × (lines : List ℕ) × AreRecords t text lines
    × FailsWriting out n text
