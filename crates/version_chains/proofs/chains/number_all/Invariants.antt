use Rattle.std.proofs.Common.{◌≡◌, ◌++◌, List, take}
use Rattle.tuple_text.specs.TupleRefs.{tuple_values}
use Rattle.tuple_text.specs.Tuples.{TupleValue}
use Rattle.version_chains.specs.Arena.{AreNumbersOf}
use Rattle.version_chains.proofs.chains.number_all.Given as goal

abbrev pub invariant-loop-tuple : goal.invariant-loop-tuple
invariant-loop-tuple l = record {
  numbers : (ts : List TupleValue) → AreNumbersOf l.initial.arena.tuples l.initial.numbers.items ts → AreNumbersOf l.arena.tuples l.numbers.items (ts ++ take l.tuple-index (tuple_values l.tuples));
  touches : l.arena.touches ≡ l.initial.arena.touches;
}
