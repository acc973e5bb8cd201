-- What lines say by themselves, and what that makes of a value.
use Rattle.std.specs.Prelude.{ℕ, ◌+◌, ◌-◌, true, List, [], ◌∷◌, length, if◌then◌else◌, Option, None, Some, Result, Ok, Err}
use Rattle.refusals.specs.Refusals.{◌>>=◌}
use Rattle.json_lines.specs.Reading.{at_line, passes_limit}
use Rattle.json_lines.specs.declared.lines.InputFault.TheVariants.{TooLong}
use Rattle.json_lines.specs.declared.reading.Stop.{Stop}
use Rattle.json_lines.specs.declared.reading.Stop.TheVariants.{Input, Line}
use Rattle.json_lines.specs.declared.reading.LineFault.{LineFault}

-- what lines say, one value for each up to the first that is refused, and why that is
pub record PartTold (V C : Type 0) : Type 0 where
  pub values : List V
  pub fault : Option (Stop C)

abbrev pub stopped : {V C : Type 0} → Stop C → PartTold V C
stopped stop = record { values = []; fault = Some stop }

abbrev pub before : {V C : Type 0} → Result V C → PartTold V C → PartTold V C
before (Ok v) p = record { values = v ∷ p.values; fault = p.fault }
before (Err c) p = stopped (Line c)

-- What lines say, each with a newline behind it, where so many bytes may come from the first on. Nothing here depends
-- on what the lines
-- before made of a value, or on their number.
abbrev pub lines_told : {V C : Type 0} → (List ℕ → Result V C) → ℕ → List (List ℕ) → PartTold V C
lines_told told room [] = record { values = []; fault = None }
lines_told told room (line ∷ lines) = if passes_limit room line true then stopped (Input TooLong)
    else before (told line) (lines_told told (room - (length line + 1)) lines)

abbrev pub ended : {S C : Type 0} → ℕ → S → Option (Stop C) → Result S (LineFault C)
ended n s None = Ok s
ended n s (Some stop) = Err (record { line = n; stop = stop })

-- what the values of lines make of s, from line number n on
abbrev pub put_values : {S V C : Type 0} → (ℕ → S → V → Result S C) → ℕ → S → List V → Option (Stop C)
    → Result S (LineFault C)
put_values put n s [] fault = ended n s fault
put_values put n s (v ∷ vs) fault = at_line n (put n s v) >>= λ t. put_values put (n + 1) t vs fault

abbrev pub put_part : {S V C : Type 0} → (ℕ → S → V → Result S C) → ℕ → S → PartTold V C → Result S (LineFault C)
put_part put n s p = put_values put n s p.values p.fault

-- of one part after the other
abbrev pub put_parts : {S V C : Type 0} → (ℕ → S → V → Result S C) → ℕ → S → List (PartTold V C)
    → Result S (LineFault C)
put_parts put n s [] = Ok s
put_parts put n s (p ∷ ps) = put_part put n s p >>= λ t. put_parts put (n + length p.values) t ps

-- what line number n makes of s is what it says, put into s
abbrev pub taken_by : {S V C : Type 0} → (List ℕ → Result V C) → (ℕ → S → V → Result S C) → ℕ → S → List ℕ
    → Result S C
taken_by told put n s line = told line >>= λ v. put n s v
