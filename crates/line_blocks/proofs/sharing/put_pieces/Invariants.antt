use Rattle.std.proofs.Common.{ℕ, All, List, Result}
use Rattle.std.specs.Vec.Iter.{into_iter_items}
use Rattle.line_blocks.specs.Shares.{AreSlots, IsPieceOf}
use Rattle.line_blocks.specs.declared.blocks.Block.{Block}
use Rattle.line_blocks.proofs.sharing.put_pieces.Given as goal

abbrev pub invariant-loop-piece : goal.invariant-loop-piece
invariant-loop-piece g l =
    (told : List ℕ → Result g.row.V.Denot g.row.C.Denot) (bs : List Block) → All (IsPieceOf told bs) l.fn.pieces.items
    → AreSlots told l.fn.slots.items bs
    → AreSlots told l.slots.items bs × All (IsPieceOf told bs) (into_iter_items l.piece-iterator)
