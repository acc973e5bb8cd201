use Rattle.std.proofs.Common.{sym, ◌∙◌}
use Rattle.std.specs.Prelude.{Contains}
use Rattle.evidence_maker.proofs.settle.look_at_each.Goals.{then-place-cone+in_ok-look_at, else-place-cone}
use Rattle.evidence_maker.proofs.settle.look_at_each.Goals as goal

pub loop-place-preserved : goal.loop-place-preserved
loop-place-preserved c = elim c.if-place-cone.branch [
  | then-place-cone+in_ok-look_at w ↦
      let inside : Contains c.args.cone.now w.index-cone-place.result = (_, w.if-place-cone.true, sym w.index-cone-place.is) in
      rw (w.asked-is, w.known-is, w.steps-is) (
        w.in_ok-look_at.ensures.asked ∙ c.loop-place.invariant.0,
        λ k before. (rw c.loop-place.invariant.0 at w.in_ok-look_at.ensures.kept) c.args.cone.now k inside (c.loop-place.invariant.1 k before),
      )
  | else-place-cone w ↦ rw (w.asked-is, w.known-is, w.steps-is) c.loop-place.invariant
]
