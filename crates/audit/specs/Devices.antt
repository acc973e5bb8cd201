-- What a call's contract says of its readers and of its writer: each before the call, and after it.
use Rattle.std.specs.Prelude.{◌≡◌, ◌⊎◌, ℕ, ◌+◌, ◌≤◌, List, ◌++◌, Option, length, take}
use Rattle.devices.specs.Given as devices
use Rattle.devices.specs.Given.{AreNext, StandBehind}
use Rattle.devices.specs.Moves.{IsBrokenOff}
use Rattle.json_lines.specs.declared.lines.TheConstants.{CHUNK}
use Rattle.json_lines.specs.declared.reading.TheConstants.{MAX_INPUT}

-- a reader: all bytes that it gave, how often it was at its end and how often it failed, and what it has left where
-- that is known
pub record Reader : Type 0 where
  pub given : List ℕ
  pub ends : ℕ
  pub failures : ℕ
  pub left : Option (List ℕ)

pub record Reading : Type 0 where
  pub before : Reader
  pub after : Reader

abbrev pub reader : {R : Type 0} → (R → List ℕ) → (R → ℕ) → (R → ℕ) → (R → Option (List ℕ)) → R → Reader
reader given ends failures left r = record { given = given r; ends = ends r; failures = failures r; left = left r }

abbrev pub reads : {R : Type 0} → (R → List ℕ) → (R → ℕ) → (R → ℕ) → (R → Option (List ℕ)) → R → R → Reading
reads given ends failures left old new =
    record { before = reader given ends failures left old; after = reader given ends failures left new }

-- a writer: all bytes that it took, how often it was asked to flush, failed, or took none of some bytes, and what it
-- holds where that is known
pub record Writer : Type 0 where
  pub taken : List ℕ
  pub flushes : ℕ
  pub failures : ℕ
  pub idle : ℕ
  pub held : Option (List ℕ)

pub record Writing : Type 0 where
  pub before : Writer
  pub after : Writer

abbrev pub writer : {W : Type 0} → (W → List ℕ) → (W → ℕ) → (W → ℕ) → (W → ℕ) → (W → Option (List ℕ)) → W → Writer
writer taken flushes failures idle held w =
    record { taken = taken w; flushes = flushes w; failures = failures w; idle = idle w; held = held w }

abbrev pub writes : {W : Type 0} → (W → List ℕ) → (W → ℕ) → (W → ℕ) → (W → ℕ) → (W → Option (List ℕ)) → W → W → Writing
writes taken flushes failures idle held old new =
    record { before = writer taken flushes failures idle held old; after = writer taken flushes failures idle held new }

-- ---- the bytes that a reader gave during the call, by the words of `devices`

-- P holds of the bytes that came
abbrev pub OfBytes : Reading → (List ℕ → Type 0) → Type 0
OfBytes r P = devices.OfBytes (λ (s : Reader). s.given) r.before r.after P

-- P holds of the whole input: of the bytes that came, to the reader's end
abbrev pub OfWhole : Reading → (List ℕ → Type 0) → Type 0
OfWhole r P = devices.OfWhole (λ (s : Reader). s.given) (λ (s : Reader). s.ends) r.before r.after P

-- P holds of every input that begins with the bytes that came; where the reader was at its end, of these bytes alone
abbrev pub OfInput : Reading → (List ℕ → Type 0) → Type 0
OfInput r P = devices.OfInput (λ (s : Reader). s.given) (λ (s : Reader). s.ends) r.before r.after P

-- P holds of the whole inputs of two readers
abbrev pub OfBoth : Reading → Reading → (List ℕ → List ℕ → Type 0) → Type 0
OfBoth r s P = OfWhole r (λ a. OfWhole s (λ b. P a b))

-- at most so many bytes are taken, also from a reader that never ends
abbrev pub GivesFew : Reading → Type 0
GivesFew r = OfBytes r (λ a. length a ≤ MAX_INPUT + CHUNK)

-- where it is known what the reader had left, what came is the next of it, and all of it where the reader came to its
-- end
abbrev pub GivesNext : Reading → Type 0
GivesNext r = AreNext (λ (s : Reader). s.given) (λ (s : Reader). s.ends) (λ (s : Reader). s.left) r.before r.after

-- ---- failures

-- a count of failures rose by one
abbrev pub HasRisen : ℕ → ℕ → Type 0
HasRisen old new = new ≡ old + 1

abbrev pub ReaderFailed : Reading → Type 0
ReaderFailed r = HasRisen r.before.failures r.after.failures

abbrev pub ReaderNeverFailed : Reading → Type 0
ReaderNeverFailed r = r.after.failures ≡ r.before.failures

-- it failed once, or once took none of some bytes
abbrev pub WriterFailed : Writing → Type 0
WriterFailed w = HasRisen w.before.failures w.after.failures ⊎ HasRisen w.before.idle w.after.idle

abbrev pub WriterNeverFailed : Writing → Type 0
WriterNeverFailed w = (w.after.failures ≡ w.before.failures) × (w.after.idle ≡ w.before.idle)

-- ---- what a writer took

abbrev pub TookNothing : Writing → Type 0
TookNothing w = w.after.taken ≡ w.before.taken

-- the first n bytes of the text went out, and no others; a flush was asked for where these are all, and only there
abbrev pub FailsWriting : Writing → ℕ → List ℕ → Type 0
FailsWriting w n text =
    (n ≤ length text) × (w.after.taken ≡ w.before.taken ++ take n text)
    × IsBrokenOff w.before.flushes w.after.flushes n (length text)

-- where it is known what the writer holds, what went out stands behind that
abbrev pub StandsBehind : Writing → Type 0
StandsBehind w = StandBehind (λ (s : Writer). s.taken) (λ (s : Writer). s.held) w.before w.after
