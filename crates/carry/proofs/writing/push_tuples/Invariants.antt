use Rattle.std.proofs.Common.{◌≡◌, ◌++◌, length, take}
use Rattle.std.specs.Prelude.{string_bytes}
use Rattle.std.specs.List.{AllByRecursion, flat_map}
use Rattle.tuple_text.specs.Grammar.{IsTuple}
use Rattle.tuple_text.specs.TupleRefs.{tuple_values}
use Rattle.carry.specs.Fields.{number_line}
use Rattle.carry.specs.Texts.{tuple_line}
use Rattle.carry.proofs.writing.push_tuples.Given as goal

abbrev pub invariant-loop-tuple : goal.invariant-loop-tuple
invariant-loop-tuple l = record {
  text : string_bytes l.out ≡ string_bytes l.fn.out ++ (number_line (length l.tuples) ++ flat_map tuple_line (tuple_values (take l.tuple-index l.tuples)));
  form : AllByRecursion IsTuple (tuple_values (take l.tuple-index l.tuples));
}
