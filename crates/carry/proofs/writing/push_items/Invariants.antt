use Rattle.std.proofs.Common.{◌≡◌, ◌++◌, length, take}
use Rattle.std.specs.Prelude.{string_bytes}
use Rattle.std.specs.List.{AllByRecursion, flat_map}
use Rattle.carry.specs.Fields.{number_line}
use Rattle.carry.specs.Texts.{IsItem, item_text}
use Rattle.carry.specs.Values.{item_values}
use Rattle.carry.proofs.writing.push_items.Given as goal

abbrev pub invariant-loop-item : goal.invariant-loop-item
invariant-loop-item l = record {
  text : string_bytes l.out ≡ string_bytes l.fn.out ++ (number_line (length l.items) ++ flat_map item_text (item_values (take l.item-index l.items)));
  form : AllByRecursion IsItem (item_values (take l.item-index l.items));
}
