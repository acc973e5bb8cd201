use Rattle.std.proofs.Common.{All, subst}
use Rattle.std.proofs.lemmas.List.Elements.{All-head, All-tail}
use Rattle.line_blocks.specs.Shares.{IsPieceOf}
use Rattle.line_blocks.proofs.sharing.put_pieces.Goals as goal

pub loop-piece-preserved : goal.loop-piece-preserved
loop-piece-preserved g c = λ told bs are slots.
    let known = c.loop-piece.invariant told bs are slots in
    let pieces = subst (λ ps. All (IsPieceOf told bs) ps) c.in-Some.ensures.steps.0 known.1 in (
      c.put_piece.ensures told bs (All-head (IsPieceOf told bs) _ _ pieces) known.0,
      All-tail (IsPieceOf told bs) _ _ pieces,
    )
