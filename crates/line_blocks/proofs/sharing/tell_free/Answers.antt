use Rattle.std.proofs.Common.{◌≡◌, ◌∙◌, All, subst, sym}
use Rattle.std.proofs.lemmas.List.Elements.{All-push}
use Rattle.std.proofs.lemmas.Option.{get_or_from_slice_get}
use Rattle.line_blocks.specs.Shares.{IsPieceOf, IsToldOf}
use Rattle.line_blocks.proofs.sharing.tell_free.Goals as goal

pub loop-turn-preserved : goal.loop-turn-preserved
loop-turn-preserved g c =
    let told = g.J.TellLine.told c.args.teller.now in (
      subst (λ ps. All (IsPieceOf told c.args.blocks.now) ps) (sym c.in_ok-push.ensures.items)
          (All-push (IsPieceOf told c.args.blocks.now) _ _ c.loop-turn.invariant.0 (λ b is.
          let same : c.in-Some.block.now ≡ b =
          c.in-Some.ensures.lookup.1 ∙ get_or_from_slice_get c.args.blocks.now c.fetch_add-number.result b
          c.in-Some.block.now is in
          subst (λ d. IsToldOf told d c.tell_block-told.result) same c.tell_block-told.ensures.told)),
      c.tell_block-told.ensures.suits,
    )
