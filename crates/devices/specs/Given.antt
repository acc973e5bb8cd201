-- What is said of the bytes that a reader gave during a call: `given` has all that it gave so far, and `ends` counts
-- how often it was at its end. The same of a writer, by `taken`.
use Rattle.std.specs.Prelude.{◌≡◌, ℕ, ◌+◌, ◌<◌, List, [], ◌++◌, Option, IfSome}
use Rattle.std.specs.Io.KnownBytes.{Consumes, Appends}

-- a fact of the bytes that came
abbrev pub OfBytes : {R : Type 0} → (R → List ℕ) → R → R → (List ℕ → Type 0) → Type 0
OfBytes given old new P = (came : List ℕ) × (given new ≡ given old ++ came) × P came

-- a fact of the whole input: of the bytes that came, to the reader's end
abbrev pub OfWhole : {R : Type 0} → (R → List ℕ) → (R → ℕ) → R → R → (List ℕ → Type 0) → Type 0
OfWhole given ends old new P = (ends new ≡ ends old + 1) × OfBytes given old new P

-- A fact of every input that the reader may have: the bytes that came, and behind them any others, but none where it
-- was at its end.
abbrev pub OfInput : {R : Type 0} → (R → List ℕ) → (R → ℕ) → R → R → (List ℕ → Type 0) → Type 0
OfInput given ends old new P = OfBytes given old new (λ came. (rest : List ℕ) → (ends old < ends new → rest ≡ []) → P (came ++ rest))

-- Where it is known what a reader had left, the bytes that came are the next of these, and all of them where it was
-- at its end.
abbrev pub AreNext : {R : Type 0} → (R → List ℕ) → (R → ℕ) → (R → Option (List ℕ)) → R → R → Type 0
AreNext given ends remaining old new =
    OfBytes given old new (λ came. Consumes (remaining old) (remaining new) came × (ends old < ends new → IfSome (remaining old) (λ left. came ≡ left)))

-- Where it is known what a writer holds, the bytes that it took stand behind that.
abbrev pub StandBehind : {W : Type 0} → (W → List ℕ) → (W → Option (List ℕ)) → W → W → Type 0
StandBehind taken contents old new = OfBytes taken old new (λ went. Appends (contents old) (contents new) went)
