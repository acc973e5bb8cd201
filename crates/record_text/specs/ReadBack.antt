-- What the reader of evidence makes of a record's text.
use Rattle.std.specs.Prelude.{◌≡◌, ℕ, ◌≤◌, ◌^◌, true, List, [], ◌∷◌, ◌++◌, length, replicate, slice_set, Option, None, Some, Ok}
use Rattle.refusals.specs.Refusals.{◌>>=◌, needed}
use Rattle.json_lines.specs.Json.{taken_line}
use Rattle.trace_lines.specs.Values.{EntryValue, entry_lines}
use Rattle.evidence_check.specs.Reading.{fact_count, place_of, put_steps, record_line, evidence_of}
use Rattle.evidence_check.specs.Records.{Records}
use Rattle.evidence_check.specs.Steps.{StepValue}
use Rattle.evidence_check.specs.declared.cause.EvidenceCause.TheVariants as causes
use Rattle.record_text.specs.Record.{record_text, record_length}

-- As a line of evidence, the text puts these steps at the entry on that line, unless the reader refuses the line, a
-- second record or the count of facts.
abbrev pub IsTaken : ℕ → List StepValue → Type 0
IsTaken line steps =
    (n : ℕ) (r : Records) → taken_line causes.NotJson (λ n. record_line) n r (record_text line steps)
    ≡ (needed causes.StrayLine (place_of line r.lines) >>= λ place. put_steps r place steps)

-- the evidence that has these steps for the entry at a place, and no others
abbrev pub only_steps : List EntryValue → ℕ → List StepValue → List (Option (List StepValue))
only_steps entries place steps = slice_set (replicate (length entries) None) place (Some steps)

-- Of the line of an entry, and within the limits, the text and a newline are evidence that has these steps for that
-- entry, and no others.
abbrev pub IsReadBack : List EntryValue → ℕ → List StepValue → Type 0
IsReadBack entries line steps =
    (place : ℕ) → place_of line (entry_lines entries) ≡ Some place → record_length line steps ≤ 2 ^ 20
    → fact_count steps ≤ 100000
    → evidence_of entries true (record_text line steps ++ 10 ∷ []) ≡ Ok (only_steps entries place steps)
