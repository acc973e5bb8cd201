use Rattle.std.proofs.Common.{rules, ◌≡◌}
use Rattle.evidence_maker.specs.Making.{HasStratum}
use Rattle.evidence_maker.proofs.MakingLemmas.{those_next, those_same}
use Rattle.evidence_maker.proofs.StrataLemmas.{stands_there}
use Rattle.evidence_maker.proofs.layers.layer_of.Goals.{then-is_at+in_ok-clone+in_ok-push, else-is_at}
use Rattle.evidence_maker.proofs.layers.layer_of.Goals as goal

pub loop-place-preserved : goal.loop-place-preserved
loop-place-preserved c = λ lookup all.
    let fact = c.index-facts-place.result in
    let stands = stands_there lookup c.args.facts.now c.args.strata.now all c.loop-place.place fact c.loop-place-test.true c.index-facts-place.is c.args.stratum in
    elim c.if-is_at.branch [
      | then-is_at+in_ok-clone+in_ok-push w ↦
          let same : w.in_ok-clone.field-0 ≡ fact = search rules in
          rw w.layer-is
          (those_next c.args.facts.now c.loop-place.place fact c.loop-place-test.true c.index-facts-place.is
          (HasStratum lookup c.args.stratum) c.loop-place.layer.items _ (c.loop-place.invariant lookup all)
          (stands.0 (c.is_at.ensures.0 w.if-is_at.true)) (rw (← same) w.in_ok-push.ensures.items))
      | else-is_at w ↦
          rw w.layer-is
          (those_same c.args.facts.now c.loop-place.place fact c.loop-place-test.true c.index-facts-place.is
          (HasStratum lookup c.args.stratum) c.loop-place.layer.items (c.loop-place.invariant lookup all)
          (λ h. let t = c.is_at.ensures.1 (stands.1 h) in let f = w.if-is_at.false in cc))
    ]
