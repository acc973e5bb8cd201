-- What is told, without where it lies in memory.
use Rattle.std.specs.Prelude.{◌≡◌, ◌⊎◌, ◌+◌, ◌-◌, ◌^◌, ◌<◌, ◌≤◌, length, ℕ, List, [], ◌∷◌, ⊤, IfOk, IfErr, true, map, Result, Ok, Err}
use Rattle.std.specs.declared.alloc.AllocError.{AllocError}
use Rattle.json_lines.specs.declared.lines.InputFault.TheVariants.{OutOfMemory, TooLong}
use Rattle.json_lines.specs.declared.reading.LineFault.{LineFault}
use Rattle.json_lines.specs.declared.reading.Stop.TheVariants.{Input}
use Rattle.line_blocks.specs.Blocks.{has_whole_lines, joined, lines_in, lines_of}
use Rattle.line_blocks.specs.Parts.{PartTold, lines_told, put_parts}
use Rattle.line_blocks.specs.declared.blocks.Block.{Block}
use Rattle.line_blocks.specs.declared.telling.Told.{Told}

abbrev pub no_memory : {C : Type 0} → ℕ → LineFault C
no_memory n = record { line = n; stop = Input OutOfMemory }

abbrev pub long_line : {C : Type 0} → ℕ → LineFault C
long_line n = record { line = n; stop = Input TooLong }

abbrev pub told_value : {V C : Type 0} → Told V C → PartTold V C
told_value t = record { values = t.values.items; fault = t.fault }

abbrev pub bytes_in : List Block → List (List ℕ)
bytes_in bs = map (λ b. b.bytes.now) bs

-- what the lines of a block say
abbrev pub block_told : {V C : Type 0} → (List ℕ → Result V C) → Block → PartTold V C
block_told told b = lines_told told b.room (lines_of b.bytes.now)

-- each result that is no want of memory is what its block says
abbrev pub AreTold : {V C : Type 0} → (List ℕ → Result V C) → List (Result (Told V C) AllocError) → List Block → Type 0
AreTold told [] [] = ⊤
AreTold told [] (b ∷ bs) = ⊥
AreTold told (r ∷ rs) [] = ⊥
AreTold told (r ∷ rs) (b ∷ bs) = IfOk r (λ t. told_value t ≡ block_told told b) × AreTold told rs bs

-- each block is of whole lines, and has the room that those before it left
abbrev pub AreBlocks : ℕ → List Block → Type 0
AreBlocks room [] = ⊤
AreBlocks room (b ∷ bs) =
    (b.room ≡ room) × (has_whole_lines b.bytes.now ≡ true) × AreBlocks (room - length b.bytes.now) bs

-- the bytes, in blocks
abbrev pub IsCut : ℕ → List ℕ → List Block → Type 0
IsCut room bytes bs = (joined (bytes_in bs) ≡ bytes) × AreBlocks room bs

-- what was answered and made of the value is what putting makes of it, unless memory ran out
abbrev pub PutsAs : {S T C : Type 0} → Result T (LineFault C) → S → Result S (LineFault C) → Type 0
PutsAs (Ok u) s put = put ≡ Ok s
PutsAs (Err e) s put = (e.stop ≡ Input OutOfMemory) ⊎ (put ≡ Err e)

-- What was answered, the number of the next line, and made of the value is what the lines of blocks say, put in.
pub record PutsTold {S V C : Type 0} (told : List ℕ → Result V C) (put : ℕ → S → V → Result S C) (first : ℕ) (old : S)
    (bs : List Block) (result : Result ℕ (LineFault C)) (new : S) : Type 0 where
  pub puts : PutsAs result new (put_parts put first old (map (block_told told) bs))
  pub next : IfOk result (λ n. n ≡ first + lines_in (bytes_in bs))
  pub line : IfErr result (λ e. (first ≤ e.line) × (e.line ≤ first + lines_in (bytes_in bs)))

-- so it is of blocks, whichever these are, of which this was told
abbrev pub PutsParts : {S V C : Type 0} → (ℕ → S → V → Result S C) → ℕ → S → List (Result (Told V C) AllocError)
    → Result ℕ (LineFault C) → S → Type 0
PutsParts {S} {V} {C} put first old parts result new = (told : List ℕ → Result V C) (bs : List Block)
    → AreTold told parts bs → PutsTold told put first old bs result new

-- what was told of blocks whose lines have numbers, from n on
abbrev pub AreNumbered : {V C : Type 0} → ℕ → List (Result (Told V C) AllocError) → Type 0
AreNumbered {V} {C} n rs = (told : List ℕ → Result V C) × (bs : List Block) × AreTold told rs bs
    × (n + lines_in (bytes_in bs) < 2 ^ 64)
