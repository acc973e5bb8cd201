-- How far the lines of a reader were read.
use Rattle.std.specs.Prelude.{◌≡◌, ℕ, ◌+◌, ◌-◌, ◌<◌, ◌≤◌, ◌^◌, ◌==◌, if◌then◌else◌, Bool, List, [], ◌∷◌, ◌++◌, length, Option, Result}
use Rattle.devices.specs.Given.{AreNext}
use Rattle.json_lines.specs.Reading.{parts, read_from}
use Rattle.json_lines.specs.declared.next.LineReader.{LineReader}

module _ {S C : Type 0} (taken : ℕ → S → List ℕ → Result S C) (start : S) where
  -- the bytes that were used say nothing more than the value does, from line n on
  pub record GoesFrom (n room : ℕ) (s : S) (used : List ℕ) : Type 0 where
    pub same : (whole : Bool) (ys : List ℕ) → read_from taken whole 1 (2 ^ 30) start (parts (used ++ ys))
        ≡ read_from taken whole n room s (parts ys)
    pub counted : (ys : List ℕ) → length (parts (used ++ ys)) + 1 ≡ n + length (parts ys)

-- how many lines were taken of an input whose last line was: behind the last newline none begins where nothing stands
abbrev pub lines_taken : LineReader → ℕ
lines_taken r = r.number - (if length r.line.items == 0 then 1 else 0)

-- From `first` on a reader gave whole lines that made a value of what it was at the start, and behind them bytes that
-- are at hand. It neither failed nor was at its end.
pub record IsReadSoFar {R S C : Type 0} (given : R → List ℕ) (ends failures : R → ℕ) (remaining : R → Option (List ℕ))
    (taken : ℕ → S → List ℕ → Result S C) (first now : R) (start s : S) (r : LineReader) : Type 0 where
  pub used : List ℕ
  pub none : r.number ≡ 1 → used ≡ []
  pub whole : 1 < r.number → (lines : List ℕ) × (used ≡ lines ++ 10 ∷ [])
  pub gave : given now ≡ (given first ++ used) ++ r.lines
  pub fits : length used + r.room ≤ 2 ^ 30
  pub follows : GoesFrom taken start r.number r.room s used
  pub known : AreNext given ends remaining first now
  pub going : ends now ≡ ends first
  pub kept : failures now ≡ failures first
