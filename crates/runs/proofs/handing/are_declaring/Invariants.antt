use Rattle.std.proofs.Common.{◌≡◌, ◌≤◌, drop, length, map}
use Rattle.carry.specs.Values.{item_value}
use Rattle.runs.specs.DeclaredTexts.{declared_in, texts_of}
use Rattle.runs.proofs.handing.are_declaring.Given as goal

-- where the rest is the same, all is
abbrev pub invariant-loop-item : goal.invariant-loop-item
invariant-loop-item l =
    (l.k ≤ length l.declared)
    × (declared_in (map item_value (drop l.item-index l.items)) ≡ texts_of (drop l.k l.declared)
    → declared_in (map item_value l.items) ≡ texts_of l.declared)
