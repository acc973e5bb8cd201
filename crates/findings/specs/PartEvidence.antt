-- The bytes of the evidence for a trace that is cut by object, and the lines of its findings.
use Rattle.std.specs.Prelude.{◌≡◌, ℕ, ◌&&◌, ◌==◌, not, Bool, false, List, [], map, Option, None, Some, if◌then◌else◌, codes}
use Rattle.std.specs.List.{list_any}
use Rattle.std.specs.Str.{is_utf8}
use Rattle.serde_json.specs.Data.{Data}
use Rattle.serde_json.specs.Read.{read}
use Rattle.json_lines.specs.Fields.{number_at}
use Rattle.json_lines.specs.Reading.{parts}
use Rattle.trace_lines.specs.Values.{EntryValue}
use Rattle.findings.specs.Parts.{is_of}
use Rattle.findings.specs.declared.finding.Finding.{Finding}

-- an entry of another object stands on the line
abbrev pub is_line_of_others : (List ℕ → List ℕ → Bool) → List EntryValue → ℕ → Bool
is_line_of_others objects es line = list_any (λ e. (e.line == line) && not (is_of objects e)) es

abbrev pub names_others : (List ℕ → List ℕ → Bool) → List EntryValue → Option ℕ → Bool
names_others objects es None = false
names_others objects es (Some line) = is_line_of_others objects es line

-- the value is a record for such an entry
abbrev pub is_record_of_others : (List ℕ → List ℕ → Bool) → List EntryValue → Option Data → Bool
is_record_of_others objects es None = false
is_record_of_others objects es (Some d) = names_others objects es (number_at (codes "line") d)

-- a line of evidence, blank where it is a record for an entry of another object
abbrev pub record_of_part : (List ℕ → List ℕ → Bool) → List EntryValue → List ℕ → List ℕ
record_of_part objects es line = if is_utf8 line && is_record_of_others objects es (read line) then [] else line

-- bytes that have the same lines, but for the records for entries of other objects, which are blank
abbrev pub IsPartOfEvidence : (List ℕ → List ℕ → Bool) → List EntryValue → (part bytes : List ℕ) → Type 0
IsPartOfEvidence objects es part bytes = parts part ≡ map (record_of_part objects es) (parts bytes)

-- the finding is on no line of an entry of another object
abbrev pub is_on_part : (List ℕ → List ℕ → Bool) → List EntryValue → Finding → Bool
is_on_part objects es f = not (is_line_of_others objects es f.line)
