use Rattle.std.proofs.Common.{◌≡◌, ◌++◌, drop, map}
use Rattle.carry.specs.Values.{item_value}
use Rattle.runs.specs.DeclaredTexts.{declared_in, texts_of}
use Rattle.runs.proofs.kept.declared_lines.Given as goal

-- those so far, and those of the rest
abbrev pub invariant-loop-item : goal.invariant-loop-item
invariant-loop-item l =
    texts_of l.declared.items ++ declared_in (map item_value (drop l.item-index l.items))
    ≡ declared_in (map item_value l.items)
