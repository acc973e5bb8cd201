use Rattle.std.proofs.Common.{◌≡◌, All, None, arith, refl, subst, sym}
use Rattle.std.proofs.lemmas.List.Elements.{All-push}
use Rattle.line_blocks.proofs.Slots.{none_told}
use Rattle.line_blocks.proofs.sharing.no_slots.Goals as goal

pub returns : goal.returns
returns g c = λ told.
    none_told told c.loop-block.slots.items c.args.blocks.now c.loop-block.invariant.0
    (omega (arith, c.loop-block.invariant.1, c.loop-block.auto._block-index-end, c.loop-block-test.false))

pub loop-block-preserved : goal.loop-block-preserved
loop-block-preserved g c = (
  subst (λ ss. All (λ s. s.told ≡ None) ss) (sym c.in_ok-push.ensures.items)
      (All-push (λ s. s.told ≡ None) _ _ c.loop-block.invariant.0 refl),
  omega (arith, c.loop-block.invariant.1, c.in_ok-push.ensures.len, c.push.new.self.ok.0, c.loop-block.slots.ok.0),
)
