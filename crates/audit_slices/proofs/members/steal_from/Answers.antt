use Rattle.std.proofs.Common.{◌∙◌, ap, ◌+◌, arith}
use Rattle.audit_slices.proofs.ThiefLemmas.{places_kept, sums_more, sums_same, inside, inside_same}
use Rattle.audit_slices.proofs.members.steal_from.Goals as goal

pub returns-in-Some-clause-places : goal.returns-in-Some-clause-places
returns-in-Some-clause-places c =
    places_kept c.loop-thief.thieves c.loop-thief.thief-index c.steal.new.self c.thief-item.result (omega arith) c.in-Some.ensures.same ∙ c.loop-thief.invariant.places

pub returns-in-Some-clause-sums : goal.returns-in-Some-clause-sums
returns-in-Some-clause-sums c = λ h.
    sums_more c.loop-thief.thieves c.loop-thief.thief-index c.steal.new.self c.thief-item.result (omega arith) c.in-Some.slice c.in-Some.ensures.some.0 h ∙ ap (λ k. k + h c.in-Some.slice) (c.loop-thief.invariant.sums h)

pub returns-in-Some-clause-inside : goal.returns-in-Some-clause-inside
returns-in-Some-clause-inside c =
    inside_same _ _ c.in-Some.slice c.loop-thief.invariant.places
    (inside c.loop-thief.thieves c.loop-thief.thief-index c.thief-item.result c.in-Some.slice (omega arith) c.in-Some.ensures.some.1)

pub loop-thief-preserved : goal.loop-thief-preserved
loop-thief-preserved c = record {
  places = places_kept c.loop-thief.thieves c.loop-thief.thief-index c.steal.new.self c.thief-item.result (omega arith) c.in-None.ensures.same ∙ c.loop-thief.invariant.places;
  sums = λ h. sums_same c.loop-thief.thieves c.loop-thief.thief-index c.steal.new.self c.thief-item.result (omega arith) c.in-None.ensures.none h ∙ c.loop-thief.invariant.sums h;
}
