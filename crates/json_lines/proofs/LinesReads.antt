-- What is said of a reader where the reading of its lines stops.
use Rattle.std.proofs.Common.{◌≡◌, ℕ, ◌+◌, ◌^◌, ◌≤◌, List, ◌++◌, Option, Result, Err, true, false}
use Rattle.devices.specs.Given.{OfBytes, OfInput, AreNext}
use Rattle.devices.proofs.Given.{next-trans}
use Rattle.json_lines.specs.InputRead.{LinesRead}
use Rattle.json_lines.specs.Lines.{ComeAtMost}
use Rattle.json_lines.specs.Reading.{Fails, IsReadFault, read_all}
use Rattle.json_lines.specs.declared.lines.TheConstants.{CHUNK}
use Rattle.json_lines.specs.declared.next.LineReader.{LineReader}
use Rattle.json_lines.specs.declared.reading.Stop.{Stop}
use Rattle.json_lines.specs.SoFar.{IsReadSoFar}
use Rattle.json_lines.proofs.Folds.{came_in_all, line_came}

-- the lines before this one were taken, and the reader was asked for it
module _ {R S C : Type 0} (given : R → List ℕ) (ends failures : R → ℕ) (remaining : R → Option (List ℕ))
    (taken : ℕ → S → List ℕ → Result S C) (first before behind : R) (start s now : S) (r : LineReader) (max : ℕ)
    (so_far : IsReadSoFar given ends failures remaining taken first before start s r)
    (most : ComeAtMost (max + CHUNK) (given before) (given behind) r.lines) (fits : max ≤ r.room)
    (next : AreNext given ends remaining before behind) where
  pub stops : {T : Type 0} (stop : Stop C)
      → OfInput given ends first behind
      (λ input. Fails stop (record { line = r.number; stop = stop }) (read_all taken true start input))
      → (IsReadFault (record { line = r.number; stop = stop }) → OfBytes given first behind
      (λ came. read_all taken false start came ≡ Err (record { line = r.number; stop = stop })))
      → (IsReadFault (record { line = r.number; stop = stop }) → failures behind ≡ failures first + 1)
      → ((IsReadFault (record { line = r.number; stop = stop }) → ⊥) → failures behind ≡ failures first)
      → LinesRead {T = T} given ends failures remaining taken first behind start now
      (Err (record { line = r.number; stop = stop }))
  stops stop exact failed counted unfailed =
      let came = most (given first ++ so_far.used) so_far.gave in
      record {
        exact = exact;
        failed = failed;
        ended = tt;
        most = came_in_all given first behind (2 ^ 30) r.room max CHUNK so_far.used so_far.fits fits came;
        known = next-trans given ends remaining first before behind so_far.known next;
        line = line_came taken start given first behind r.number r.room s so_far.used came.0 so_far.follows came.1;
        counted = counted;
        kept = tt;
        unfailed = unfailed;
      }
