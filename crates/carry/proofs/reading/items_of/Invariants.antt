use Rattle.std.proofs.Common.{◌≡◌, ◌-◌}
use Rattle.carry.specs.Fields.{repeated}
use Rattle.carry.specs.Reading.{item_at}
use Rattle.carry.specs.Values.{item_values}
use Rattle.carry.proofs.Loop.{with_front}
use Rattle.carry.proofs.reading.items_of.Given as goal
use denote.Shadow.{shadow}
use denote.Text.{Utf8}

abbrev pub invariant-loop : goal.invariant-loop
invariant-loop l = record {
  so_far : with_front (item_values l.items.items) (repeated item_at (l.count - l.counter) l.rest) ≡ repeated item_at l.count l.text;
  utf8 : shadow (Utf8 l.rest);
}
