use Rattle.std.proofs.Common.{All}
use Rattle.line_blocks.specs.Shares.{IsPieceOf}
use Rattle.line_blocks.proofs.sharing.tell_free.Given as goal

abbrev pub invariant-loop-turn : goal.invariant-loop-turn
invariant-loop-turn g l =
    All (IsPieceOf (g.J.TellLine.told l.fn.teller) l.fn.blocks) l.pieces.items
    × g.J.TellLine.suits l.fn.teller l.scratch
