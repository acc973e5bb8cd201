-- A line that the edges of tuples refuse.
use Rattle.std.proofs.Common.{◌≡◌, Result, Ok, Err, ap, subst, sym}
use Rattle.std.specs.Prelude.{IsErrAnd}
use Rattle.refusals.specs.Refusals.{◌>>=◌}
use Rattle.strata.specs.declared.edge.Edge.{Edge}
use Rattle.edge_checks.specs.Faults.{Answers}
use Rattle.edge_checks.specs.declared.fault.EdgeFault.{EdgeFault}
use Rattle.edge_checks.specs.declared.fault.EdgeFault.TheVariants.{Broken, OutOfMemory}
use Rattle.trace_lines.specs.Causes.{Fails, Gives}
use Rattle.trace_lines.specs.EdgeCauses.{edge_cause}
use Rattle.trace_lines.specs.Traces.{strata_cause}
use Rattle.trace_lines.specs.declared.cause.Cause.{Cause}

-- what they refuse ends the reading of the line
pub edges_refuse : {Y : Type 0} (view : Unit {0} → Y) (r : Result (Unit {0}) Cause) (f : EdgeFault) (checked : Result (Unit {0}) Edge) (next : Unit {0} → Result Y Cause)
    → IsErrAnd r (λ cause. cause ≡ edge_cause f) → Answers (Err f) checked → Gives view r (strata_cause checked >>= next)
edges_refuse view (Ok u) f checked next none h = absurd none
edges_refuse view (Err cause) f checked next is h = subst (λ (c : Cause). Fails c (strata_cause checked >>= next)) (sym is) (by f h)
  where
    by : (g : EdgeFault) → Answers (Err g) checked → Fails (edge_cause g) (strata_cause checked >>= next)
    by (Broken e) k = ap (λ (x : Result (Unit {0}) Edge). strata_cause x >>= next) k
    by OutOfMemory k = tt
