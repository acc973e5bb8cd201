-- The code of what a line says, which a model asks for.
use Rattle.std.specs.Prelude.{◌≡◌, ℕ, ◌⊎◌, List, refl}
use Rattle.std.proofs.Common.{inl, inr}
use Rattle.std.specs.Coded.{Coded, code_by, coded⊎}
use Rattle.version_chains.specs.Commits.{Commit}
use Rattle.trace_lines.specs.LineValues.{LineValue, commits, declares, records}
use Rattle.snapshots.specs.Codes.{commit_code, text_code}
use Rattle.trace_lines.specs.TraceCode.{entry_code}
use Rattle.trace_lines.specs.Values.{EntryValue}

abbrev line_parts : LineValue → List ℕ ⊎ (Commit ⊎ EntryValue)
line_parts (declares text) = inl text
line_parts (commits c) = inr (inl c)
line_parts (records e) = inr (inr e)

abbrev line_of : List ℕ ⊎ (Commit ⊎ EntryValue) → LineValue
line_of (inl text) = declares text
line_of (inr (inl c)) = commits c
line_of (inr (inr e)) = records e

pub line_of-line_parts : (l : LineValue) → line_of (line_parts l) ≡ l
line_of-line_parts (declares text) = refl
line_of-line_parts (commits c) = refl
line_of-line_parts (records e) = refl

abbrev pub line_code : Coded LineValue
line_code =
    code_by (List ℕ ⊎ (Commit ⊎ EntryValue)) (coded⊎ text_code (coded⊎ commit_code entry_code)) line_parts line_of
    line_of-line_parts
