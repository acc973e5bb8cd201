-- The trace that lines say, of however many bytes.
use Rattle.std.specs.Prelude.{◌≡◌, ℕ, ◌+◌, true, List, [], ◌∷◌, map, nat_eq, Result, Ok}
use Rattle.refusals.specs.Refusals.{◌>>=◌}
use Rattle.json_lines.specs.Json.{taken_line}
use Rattle.json_lines.specs.Reading.{parts}
use Rattle.trace_lines.specs.Traces.{trace_of, value_line}
use Rattle.trace_lines.specs.Values.{TraceValue, empty_trace}
use Rattle.trace_lines.specs.declared.cause.Cause.{Cause}
use Rattle.trace_lines.specs.declared.cause.Cause.TheVariants as causes
use Rattle.findings.specs.PartBytes.{line_of_part}

-- what lines make of a trace, from line n on
abbrev pub said_from : ℕ → TraceValue → List (List ℕ) → Result TraceValue Cause
said_from n t [] = Ok t
said_from n t (line ∷ lines) = taken_line causes.NotJson value_line n t line >>= λ u. said_from (n + 1) u lines

-- the lines say the trace
abbrev pub IsSaidBy : List (List ℕ) → TraceValue → Type 0
IsSaidBy lines t = said_from 1 empty_trace lines ≡ Ok t

-- Some bytes have these lines, but blank ones for the entries of objects that are of another part than k, and say the
-- trace.
pub record IsReadPart (part : List ℕ → List ℕ → ℕ) (lines : List (List ℕ)) (k : ℕ) (t : TraceValue) : Type 0 where
  pub bytes : List ℕ
  pub cut : parts bytes ≡ map (line_of_part (λ n i. nat_eq (part n i) k)) lines
  pub said : trace_of true bytes ≡ Ok t
