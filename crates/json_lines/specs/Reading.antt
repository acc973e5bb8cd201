-- What the lines of an input make of a value, up to the first fault.
use Rattle.std.specs.Prelude.{◌≡◌, ℕ, ◌+◌, ◌-◌, ◌^◌, ◌≤◌, ◌==◌, ◌&&◌, ◌||◌, not, min, Bool, List, [], ◌∷◌, length, get_or, nat_lt, if◌then◌else◌, Result, Ok, Err, ⊤}
use Rattle.std.specs.List.{count_by, slice_split}
use Rattle.refusals.specs.Refusals.{◌>>=◌}
use Rattle.json_lines.specs.declared.lines.InputFault.{InputFault}
use Rattle.json_lines.specs.declared.lines.InputFault.TheVariants.{Read, TooLong, OutOfMemory}
use Rattle.json_lines.specs.declared.reading.Stop.{Stop}
use Rattle.json_lines.specs.declared.reading.Stop.TheVariants.{Input, Line}
use Rattle.json_lines.specs.declared.reading.LineFault.{LineFault}

abbrev pub at_line : {S C : Type 0} → ℕ → Result S C → Result S (LineFault C)
at_line n (Ok s) = Ok s
at_line n (Err c) = Err (record { line = n; stop = Line c })

-- Room is how many bytes may still come. A newline that ends a line is one of them.
abbrev pub passes_limit : ℕ → List ℕ → Bool → Bool
passes_limit room line more = nat_lt (min room (2 ^ 20)) (length line) || (more && (length line == room))

-- What the lines from number n on make of s. Whole says that the input ended, and did not fail: then what
-- stands behind the last newline is a line too.
abbrev pub read_from : {S C : Type 0} → (ℕ → S → List ℕ → Result S C) → Bool → ℕ → ℕ → S → List (List ℕ) → Result S (LineFault C)
read_from taken whole n room s [] = Ok s
read_from taken whole n room s (line ∷ lines) = if passes_limit room line (not (length lines == 0)) then Err (record { line = n; stop = Input TooLong })
    else (if not whole && (length lines == 0) then Err (record { line = n; stop = Input Read })
    else (at_line n (taken n s line) >>= λ t. read_from taken whole (n + 1) (room - (length line + 1)) t lines))

abbrev pub parts : List ℕ → List (List ℕ)
parts input = slice_split (λ b. b == 10) input

-- the last byte is a newline, or there is none
abbrev pub are_whole_lines : List ℕ → Bool
are_whole_lines input = get_or input (length input - 1) 10 == 10

-- how many lines an input has: behind the last newline none begins, unless bytes stand there
abbrev pub line_count : List ℕ → ℕ
line_count input = count_by (λ b. b == 10) input + (if are_whole_lines input then 0 else 1)

-- these bytes have a line of this number; lines count from 1
abbrev pub HasLine : List ℕ → ℕ → Type 0
HasLine input n = (1 ≤ n) × (n ≤ length (parts input))

unfoldable pub read_all : {S C : Type 0} → (ℕ → S → List ℕ → Result S C) → Bool → S → List ℕ → Result S (LineFault C)
read_all taken whole s input = read_from taken whole 1 (2 ^ 30) s (parts input)

-- what refused a line: memory, or the cause that the line gives
abbrev pub Refuses : {S C : Type 0} → Result S C → Stop C → Type 0
Refuses read (Line c) = read ≡ Err c
Refuses read (Input OutOfMemory) = ⊤
Refuses read (Input Read) = ⊥
Refuses read (Input TooLong) = ⊥

-- what stops the reading, where a line is answered so
abbrev pub stopped : {C : Type 0} → (C → Bool) → Result (Unit {0}) C → Result (Unit {0}) (Stop C)
stopped is_memory (Ok u) = Ok u
stopped is_memory (Err c) = Err (if is_memory c then Input OutOfMemory else Line c)

-- the cause that a line gives, or that a fault of the input is
abbrev pub cause_of : {C : Type 0} → (InputFault → C) → Stop C → C
cause_of of_input (Line c) = c
cause_of of_input (Input f) = of_input f

-- a fault that was answered is the one that reading gives, unless memory ran out or the reader failed
abbrev pub Fails : {S C : Type 0} → Stop C → LineFault C → Result S (LineFault C) → Type 0
Fails (Line c) e read = read ≡ Err e
Fails (Input TooLong) e read = read ≡ Err e
Fails (Input Read) e read = ⊤
Fails (Input OutOfMemory) e read = ⊤

-- what a function answered, and made of the value, is what reading gives
abbrev pub Reads : {S C T : Type 0} → Result T (LineFault C) → S → Result S (LineFault C) → Type 0
Reads (Ok u) s read = read ≡ Ok s
Reads (Err e) s read = Fails e.stop e read

abbrev pub IsReadFault : {C : Type 0} → LineFault C → Type 0
IsReadFault e = e.stop ≡ Input Read

-- where a line's cause was answered, some line gave it
abbrev pub IsOfSomeLine : {S C : Type 0} → (ℕ → S → List ℕ → Result S C) → LineFault C → Type 0
IsOfSomeLine {S} {C} taken e = (c : C) → e.stop ≡ Line c → (n : ℕ) × (s : S) × (line : List ℕ) × (taken n s line ≡ Err c)

-- a line was refused for what it says or how long it is, and not for what the reader did or for lack of memory
abbrev pub IsOfLine : {C : Type 0} → Stop C → Type 0
IsOfLine (Line c) = ⊤
IsOfLine (Input TooLong) = ⊤
IsOfLine (Input Read) = ⊥
IsOfLine (Input OutOfMemory) = ⊥
