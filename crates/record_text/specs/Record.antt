-- The text of a record of evidence.
use Rattle.std.specs.Prelude.{ℕ, List, length}
use Rattle.serde_json.specs.Written.{compact_text}
use Rattle.evidence_check.specs.RecordData.{record_data}
use Rattle.evidence_check.specs.Steps.{StepValue}

-- as `serde_json` writes the record: with no space, and the shortest escapes
abbrev pub record_text : ℕ → List StepValue → List ℕ
record_text line steps = compact_text (record_data line steps)

-- how many bytes that is
abbrev pub record_length : ℕ → List StepValue → ℕ
record_length line steps = length (record_text line steps)
