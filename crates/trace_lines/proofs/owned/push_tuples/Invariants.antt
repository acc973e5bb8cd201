use Rattle.std.proofs.Common.{◌≡◌, ◌++◌, take}
use Rattle.std.specs.Prelude.{All}
use Rattle.tuple_text.specs.Grammar.{IsTuple}
use Rattle.tuple_text.specs.TupleRefs.{tuple_values}
use Rattle.version_chains.specs.Arena.{tuples_of}
use Rattle.trace_lines.proofs.owned.push_tuples.Given as goal

abbrev pub invariant-loop-tuple : goal.invariant-loop-tuple
invariant-loop-tuple l = record {
  tuples : tuples_of l.tuples ≡ tuples_of l.initial.tuples ++ tuple_values (take l.tuple-index l.more);
  in_form : All IsTuple (tuples_of l.tuples);
}
