-- What a line of JSON makes of a value.
use Rattle.std.specs.Prelude.{ℕ, ◌==◌, ◌||◌, Bool, List, Option, None, Some, Result, Ok, Err, if◌then◌else◌}
use Rattle.std.specs.List.{list_all}
use Rattle.std.specs.Str.{is_utf8}
use Rattle.serde_json.specs.Data.{Data}
use Rattle.serde_json.specs.Read.{read}

abbrev pub is_blank_byte : ℕ → Bool
is_blank_byte b = (b == 32) || (b == 9) || (b == 13)

-- spaces, tabs and carriage returns alone
abbrev pub is_blank : List ℕ → Bool
is_blank line = list_all is_blank_byte line

abbrev pub of_json : {S C : Type 0} → C → (Data → Result S C) → Option Data → Result S C
of_json not_json taken None = Err not_json
of_json not_json taken (Some d) = taken d

-- bytes that are no text of JSON are refused
unfoldable pub json_line : {S C : Type 0} → C → (Data → Result S C) → List ℕ → Result S C
json_line not_json taken line = if is_utf8 line then of_json not_json taken (read line) else Err not_json

-- what line number n makes of s, by what its value makes of it
abbrev pub taken_line : {S C : Type 0} → C → (ℕ → S → Data → Result S C) → ℕ → S → List ℕ → Result S C
taken_line not_json taken n s line = if is_blank line then Ok s else json_line not_json (taken n s) line
