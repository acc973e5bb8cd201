-- Bytes that are whole lines, each with its newline.
use Rattle.std.specs.Prelude.{ℕ, ◌+◌, ◌==◌, Bool, true, List, [], ◌∷◌, ◌++◌, length, if◌then◌else◌}
use Rattle.json_lines.specs.Reading.{parts}

-- whether the last byte is a newline, or this where there is none
abbrev pub ends_in_newline : Bool → List ℕ → Bool
ends_in_newline b [] = b
ends_in_newline b (x ∷ xs) = ends_in_newline (x == 10) xs

abbrev pub has_whole_lines : List ℕ → Bool
has_whole_lines xs = ends_in_newline true xs

-- all but the last
abbrev pub but_last : List (List ℕ) → List (List ℕ)
but_last [] = []
but_last (line ∷ lines) = if length lines == 0 then [] else line ∷ but_last lines

-- the lines of a block of whole lines
abbrev pub lines_of : List ℕ → List (List ℕ)
lines_of block = but_last (parts block)

-- how many bytes lines take, each with its newline
abbrev pub size_of : List (List ℕ) → ℕ
size_of [] = 0
size_of (line ∷ lines) = (length line + 1) + size_of lines

abbrev pub joined : List (List ℕ) → List ℕ
joined [] = []
joined (block ∷ blocks) = block ++ joined blocks

-- how many lines blocks have
abbrev pub lines_in : List (List ℕ) → ℕ
lines_in [] = 0
lines_in (block ∷ blocks) = length (lines_of block) + lines_in blocks
