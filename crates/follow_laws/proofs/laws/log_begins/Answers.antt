use Rattle.std.proofs.Common.{◌≡◌, ◌++◌, ◌∷◌, [], ℕ, List, true, Ok}
use Rattle.trace_lines.specs.Traces.{trace_of}
use Rattle.trace_lines.specs.Values.{TraceValue}
use Rattle.windows.proofs.GrowthLemmas.{begins}
use Rattle.follow_laws.specs.Begun.{IsOfBytes}
use Rattle.follow_laws.proofs.laws.log_begins.Goals as goal

pub returns : goal.returns
returns c = λ a b u says.
    let first = begins a b u says in
    let of_bytes : (bytes : List ℕ) (t : TraceValue) → trace_of true bytes ≡ Ok t → IsOfBytes t = λ bytes t said. record {
      rising = record { commits = c.commits_of_bytes.ensures bytes t said; entries = c.entries_of_bytes_rise.ensures bytes t said };
      formed = c.well_formed_of_bytes.ensures bytes t said;
    } in (
      first.0,
      first.1,
      record { goes = first.2; first = of_bytes (a ++ 10 ∷ []) first.0 first.1; whole = of_bytes ((a ++ 10 ∷ []) ++ b) u says },
    )
