use Rattle.std.proofs.Common.{◌≡◌, ◌++◌, length}
use denote.Text.{Utf8}
use denote.Shadow.{shadow}
use Rattle.tuple_text.specs.TupleRefs.{tuple_values}
use Rattle.trace_lines.specs.Written.{AreTuples}
use Rattle.trace_lines.proofs.WrittenCommits.{with_commas}
use Rattle.trace_lines.proofs.written.tuples_before.Given as goal

abbrev pub invariant-loop-tuple : goal.invariant-loop-tuple
invariant-loop-tuple l = shadow (Utf8 l.rest)
    × (l.fn.text ≡ with_commas (tuple_values l.tuples.items) ++ l.rest) × AreTuples (tuple_values l.tuples.items)

abbrev pub decreases-loop-tuple : goal.decreases-loop-tuple
decreases-loop-tuple l = length l.rest
