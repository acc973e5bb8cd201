use Rattle.std.proofs.Common.{◌≡◌, All, IfOk, subst}
use Rattle.std.proofs.lemmas.List.Elements.{All-head, All-tail}
use Rattle.std.specs.Vec.Iter.{into_iter_items}
use Rattle.line_blocks.specs.Shares.{IsPieceOf}
use Rattle.line_blocks.proofs.sharing.tell_blocks.Goals as goal

pub loop-pieces-init : goal.loop-pieces-init
loop-pieces-init g c =
    let gives : into_iter_items c.into_iter-pieces-iterator.result ≡ c.in_ok-taken.taken.items =
    c.into_iter-pieces-iterator.ensures.into_iter_gives.0 in
    (c.in_ok-slots.ensures (g.J.TellLine.told c.args.teller.now), rw gives c.in_ok-taken.ensures)

pub loop-pieces-preserved : goal.loop-pieces-preserved
loop-pieces-preserved g c =
    let told = g.J.TellLine.told c.args.teller.now in
    let all = rw c.in-Some.ensures.steps.0 at c.loop-pieces.invariant.1 in
    let first = All-head (λ r. IfOk r (λ v. All (IsPieceOf told c.args.blocks.now) v.items)) _ _ all in (
      c.put_pieces.ensures told c.args.blocks.now
          (subst (λ r. IfOk r (λ v. All (IsPieceOf told c.args.blocks.now) v.items)) c.in_ok-pieces.was first)
          c.loop-pieces.invariant.0,
      All-tail (λ r. IfOk r (λ v. All (IsPieceOf told c.args.blocks.now) v.items)) _ _ all,
    )
