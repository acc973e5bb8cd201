use Rattle.std.proofs.Common.{All, IfOk}
use Rattle.std.specs.Vec.Iter.{into_iter_items}
use Rattle.line_blocks.specs.Shares.{AreSlots, IsPieceOf}
use Rattle.line_blocks.proofs.sharing.tell_blocks.Given as goal

abbrev pub invariant-loop-pieces : goal.invariant-loop-pieces
invariant-loop-pieces g l =
    AreSlots (g.J.TellLine.told l.fn.teller) l.slots.items l.fn.blocks
    × All (λ r. IfOk r (λ v. All (IsPieceOf (g.J.TellLine.told l.fn.teller) l.fn.blocks) v.items))
    (into_iter_items l.pieces-iterator)
