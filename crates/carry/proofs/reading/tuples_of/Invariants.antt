use Rattle.std.proofs.Common.{◌≡◌, ◌-◌}
use Rattle.tuple_text.specs.TupleRefs.{tuple_values}
use Rattle.carry.specs.Fields.{repeated}
use Rattle.carry.specs.Reading.{tuple_line_at}
use Rattle.carry.proofs.Loop.{with_front}
use Rattle.carry.proofs.reading.tuples_of.Given as goal
use denote.Shadow.{shadow}
use denote.Text.{Utf8}

abbrev pub invariant-loop : goal.invariant-loop
invariant-loop l = record {
  so_far : with_front (tuple_values l.tuples.items) (repeated tuple_line_at (l.count - l.counter) l.rest) ≡ repeated tuple_line_at l.count l.text;
  utf8 : shadow (Utf8 l.rest);
}
