use Rattle.std.proofs.Common.{◌≡◌, ◌-◌, length, take}
use Rattle.tuple_text.specs.TupleRefs.{tuple_values}
use Rattle.version_chains.specs.Arena.{tuples_of}
use Rattle.trace_lines.proofs.owned.tuple_refs.Given as goal

abbrev pub invariant-loop-row : goal.invariant-loop-row
invariant-loop-row l = tuple_values l.refs.items ≡ take (length l.refs.items) (tuples_of l.tuples)

abbrev pub decreases-loop-row : goal.decreases-loop-row
decreases-loop-row l = length l.tuples - length l.refs.items
