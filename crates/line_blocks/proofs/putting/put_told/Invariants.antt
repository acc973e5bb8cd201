use Rattle.std.proofs.Common.{◌≡◌, ◌+◌, ◌≤◌, length}
use Rattle.std.specs.Vec.Iter.{into_iter_items}
use Rattle.line_blocks.specs.Parts.{put_part, put_values}
use Rattle.line_blocks.specs.Values.{told_value}
use Rattle.line_blocks.proofs.putting.put_told.Given as goal

abbrev pub invariant-loop-said : goal.invariant-loop-said
invariant-loop-said g l =
    (put_part g.P.PutTold.put l.fn.first l.fn.value (told_value l.fn.told) ≡ put_values g.P.PutTold.put l.number
    l.value (into_iter_items l.said-iterator) l.fn.told.fault)
    × (l.number + length (into_iter_items l.said-iterator) ≡ l.fn.first + length l.fn.told.values.items)
    × (l.fn.first ≤ l.number) × (g.P.PutTold.next l.value ≤ l.number)
