-- What reading an input comes to, whole or up to its first fault.
use Rattle.std.specs.Prelude.{◌≡◌, ℕ, ◌+◌, ◌≤◌, true, false, List, length, Option, Result, Err, IfErr, OnOk}
use Rattle.devices.specs.Given.{OfBytes, OfInput, AreNext}
use Rattle.json_lines.specs.Reading.{read_all, HasLine, IsReadFault, Reads}
use Rattle.json_lines.specs.declared.lines.TheConstants.{CHUNK}
use Rattle.json_lines.specs.declared.reading.LineFault.{LineFault}
use Rattle.json_lines.specs.declared.reading.TheConstants.{MAX_INPUT}

-- A reader was read, and this was answered. Gives says what input gives an answer, and Cuts which bytes give a fault
-- where a reader failed behind them; a fault is of a line, and IsRead says of one that the reader failed.
pub record InputRead {R T E : Type 0} (IsRead : E → Type 0) (line_of : E → ℕ) (Gives : Result T E → List ℕ → Type 0)
    (Cuts : E → List ℕ → Type 0) (given : R → List ℕ) (ends failures : R → ℕ) (remaining : R → Option (List ℕ))
    (old new : R) (result : Result T E) : Type 0 where
  -- of every input that the reader may have: it begins with the bytes that came, and is these where the reader was at
  -- its end
  pub exact : OfInput given ends old new (Gives result)
  -- of a reader that failed, by the bytes that came before
  pub failed : IfErr result (λ e. IsRead e → OfBytes given old new (Cuts e))
  pub ended : OnOk result (ends new ≡ ends old + 1)
  -- also of a reader that never ends
  pub most : OfBytes given old new (λ came. length came ≤ MAX_INPUT + CHUNK)
  pub known : AreNext given ends remaining old new
  -- a line is one of those that came, also where memory ran out
  pub line : IfErr result (λ e. OfBytes given old new (λ came. HasLine came (line_of e)))
  -- a reader's failure is told, and nothing else is called one
  pub counted : IfErr result (λ e. IsRead e → failures new ≡ failures old + 1)
  pub kept : OnOk result (failures new ≡ failures old)
  pub unfailed : IfErr result (λ e. (IsRead e → ⊥) → failures new ≡ failures old)

-- The lines of a reader were read: what was answered, and made of a value.
abbrev pub LinesRead : {R S T C : Type 0} → (R → List ℕ) → (R → ℕ) → (R → ℕ) → (R → Option (List ℕ))
    → (ℕ → S → List ℕ → Result S C) → R → R → S → S → Result T (LineFault C) → Type 0
LinesRead given ends failures remaining taken old new start now result =
    InputRead IsReadFault (λ e. e.line) (λ r input. Reads r now (read_all taken true start input))
    (λ e came. read_all taken false start came ≡ Err e) given ends failures remaining old new result
