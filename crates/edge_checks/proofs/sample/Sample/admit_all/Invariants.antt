use Rattle.std.proofs.Common.{◌≡◌, ◌++◌, length, take, drop, Ok}
use Rattle.strata.specs.Edges.{first_broken, edges_of_tuples}
use Rattle.tuple_text.specs.TupleRefs.{tuple_values}
use Rattle.edge_checks.specs.Indexed.{IsIndex}
use Rattle.edge_checks.specs.Sampled.{Represents}
use Rattle.edge_checks.proofs.sample.Sample.admit_all.Given as goal

abbrev pub invariant-loop-tuple : goal.invariant-loop-tuple
invariant-loop-tuple l = record {
  left : first_broken l.rules (edges_of_tuples l.rules (tuple_values l.tuples)) ≡ first_broken l.rules (edges_of_tuples l.rules (drop l.tuple-index (tuple_values l.tuples)));
  unbroken : first_broken l.rules (edges_of_tuples l.rules l.self) ≡ Ok (tt {0});
  taken : Represents l.self (l.fn.self ++ take l.tuple-index (tuple_values l.tuples));
  index : IsIndex l.rules l.index l.self;
  kept : take (length l.fn.self) l.self ≡ l.fn.self;
}
