use Rattle.std.specs.Vec.Iter.{into_iter_items}
use Rattle.line_blocks.proofs.Slots.{Ordered}
use Rattle.line_blocks.proofs.sharing.in_order.Given as goal

abbrev pub invariant-loop-slot : goal.invariant-loop-slot
invariant-loop-slot g l =
    Ordered (g.J.TellLine.told l.fn.teller) l.fn.blocks l.all.items (into_iter_items l.slot-iterator)
    × g.J.TellLine.suits l.fn.teller l.scratch
