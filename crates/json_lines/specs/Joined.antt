-- The two parts of joined input, and what reading takes of them.
use Rattle.std.specs.Prelude.{◌≡◌, ◌≢◌, ℕ, ◌+◌, ◌^◌, ◌<◌, ◌≤◌, Bool, not, true, false, List, [], ◌∷◌, ◌++◌, length, Option, None, Some, option_map, codes, bytes_eq, if◌then◌else◌, Result, Err, OnOk}
use Rattle.std.specs.List.{flat_map, join_with_byte}
use Rattle.devices.specs.Given.{AreNext}
use Rattle.json_lines.specs.Lines.{ComeAtMost, Takes, lacks, line_ending}
use Rattle.json_lines.specs.Reading.{parts, at_line, read_all, Reads}
use Rattle.json_lines.specs.declared.lines.InputFault.{InputFault}
use Rattle.json_lines.specs.declared.lines.InputFault.TheVariants.{Read, TooLong}
use Rattle.json_lines.specs.declared.lines.TheConstants.{CHUNK}
use Rattle.json_lines.specs.declared.reading.Stop.TheVariants.{Input}
use Rattle.json_lines.specs.declared.reading.LineFault.{LineFault}

abbrev pub is_marker : List ℕ → Bool
is_marker line = bytes_eq line (codes "---")

-- the lines before the first that is exactly `---`, and those behind it
abbrev pub lines_joined : List (List ℕ) → Option (List (List ℕ) × List (List ℕ))
lines_joined [] = None
lines_joined (l ∷ ls) = if is_marker l then Some ([], ls) else option_map (λ p. (l ∷ p.0, p.1)) (lines_joined ls)

-- the bytes of lines, each with its newline
abbrev pub with_newlines : List (List ℕ) → List ℕ
with_newlines ls = flat_map (λ l. l ++ 10 ∷ []) ls

-- the bytes of both: newlines stand behind the lines of the front, and between those behind it
abbrev pub bytes_of : List (List ℕ) × List (List ℕ) → List ℕ × List ℕ
bytes_of p = (with_newlines p.0, join_with_byte 10 p.1)

-- the two parts of joined input
abbrev pub joined_of : List ℕ → Option (List ℕ × List ℕ)
joined_of input = option_map bytes_of (lines_joined (parts input))

-- what is left of joined input: the bytes that came and were not taken, how many more may be taken, and whether the
-- reader was at its end
pub record RestValue : Type 0 where
  pub at_hand : List ℕ
  pub room : ℕ
  pub ended : Bool

-- ---- what was read: `given` has all that the reader had given before, and `now` what it has given since, too

-- the bytes at hand and those that came behind them, all of which were taken, are an input of which P holds
abbrev pub IsTaken : (given now at_hand : List ℕ) → (List ℕ → Type 0) → Type 0
IsTaken given now at_hand P = (input : List ℕ) × Takes given now at_hand [] input × P input

-- What came begins with a first part, of which P holds, and the marker; whatever comes behind these, with what is at
-- hand, is the second part, which is empty where the reader was at its end.
abbrev pub IsFront : (given now : List ℕ) → RestValue → (List ℕ → Type 0) → Type 0
IsFront given now rest P =
    (passed : List ℕ) × (front : List ℕ) × (now ≡ given ++ (passed ++ rest.at_hand)) × (length passed + rest.room ≡ 2 ^ 30)
    × (rest.ended ≡ true → rest.at_hand ≡ []) × ((more : List ℕ) → (rest.ended ≡ true → more ≡ []) → joined_of (passed ++ more) ≡ Some (front, more)) × P front

-- those at hand, and what came behind them, are more bytes than there is room for
abbrev pub ComesPast : (room : ℕ) → (given now at_hand : List ℕ) → Type 0
ComesPast room given now at_hand = (before : List ℕ) → given ≡ before ++ at_hand → (bytes : List ℕ) × (now ≡ before ++ bytes) × (room < length bytes)

-- how often a reader has to be at its end yet
abbrev pub ends_left : Bool → ℕ
ends_left true = 0
ends_left false = 1

-- A reader was asked for what is left of an input, or for some of it.
pub record AsksFor {R T : Type 0} (rest : RestValue) (given : R → List ℕ) (ends failures : R → ℕ)
    (remaining : R → Option (List ℕ)) (old new : R) (result : Result T InputFault) : Type 0 where
  -- more came than there is room for
  pub long : result ≡ Err TooLong → ComesPast rest.room (given old) (given new) rest.at_hand
  -- also of a reader that never ends
  pub most : ComeAtMost (rest.room + CHUNK) (given old) (given new) rest.at_hand
  pub known : AreNext given ends remaining old new
  -- a reader's failure alone gives this error
  pub failed : result ≡ Err Read → failures new ≡ failures old + 1
  pub kept : result ≢ Err Read → failures new ≡ failures old

-- It was asked for all of it, to its end. One that was there already is not asked again.
pub record RestRead {R T : Type 0} (rest : RestValue) (given : R → List ℕ) (ends failures : R → ℕ)
    (remaining : R → Option (List ℕ)) (old new : R) (result : Result T InputFault) : Type 0 where
  pub asked : AsksFor rest given ends failures remaining old new result
  pub ended : OnOk result (ends new ≡ ends old + ends_left rest.ended)
  pub over : rest.ended ≡ true → given new ≡ given old

-- a line is all there, or has more bytes than a line may have
abbrev pub IsHeld : (whole : Bool) → (bytes line : List ℕ) → Type 0
IsHeld true bytes line = (line ≡ bytes) × (length bytes ≤ 2 ^ 20)
IsHeld false bytes line = 2 ^ 20 < length bytes

-- the next line, and its newline where it has one, were taken
pub record IsNextLine (given now : List ℕ) (old new : RestValue) (whole : Bool) (line : List ℕ) : Type 0 where
  pub bytes : List ℕ
  pub lacking : lacks bytes ≡ true
  pub takes : Takes given now old.at_hand new.at_hand (bytes ++ line_ending (not new.ended))
  pub size : length (bytes ++ line_ending (not new.ended)) + new.room ≡ old.room
  pub held : IsHeld whole bytes line

-- what a line makes of s, where one that is too long was passed over
abbrev pub line_taken : {S C : Type 0} → (ℕ → S → List ℕ → Result S C) → (whole : Bool) → ℕ → S → List ℕ → Result S (LineFault C)
line_taken taken true n s line = at_line n (taken n s line)
line_taken taken false n s line = Err (record { line = n; stop = Input TooLong })

-- the lines up to a marker that was found, or to the end, were taken: `front` has those that were read
pub record IsPart {S C T : Type 0} (taken : ℕ → S → List ℕ → Result S C) (given now : List ℕ) (old new : RestValue) (start s : S) (marked : Bool) (read : Result T (LineFault C)) (found : Bool) : Type 0 where
  pub passed : List ℕ
  pub front : List ℕ
  pub takes : Takes given now old.at_hand new.at_hand passed
  pub size : length passed + new.room ≡ old.room
  pub reads : Reads read s (read_all taken true start front)
  pub at_marker : found ≡ true → (more : List ℕ) → (new.ended ≡ true → more ≡ []) → joined_of (passed ++ more) ≡ Some (front, more)
  pub at_end : found ≡ false → (front ≡ passed) × (new.ended ≡ true) × (new.at_hand ≡ []) × (marked ≡ true → joined_of passed ≡ None)
  pub sought : found ≡ true → marked ≡ true
