use Rattle.std.proofs.Common.{rules, ◌≡◌, ◌∙◌, true, refl, subst, sym}
use Rattle.marks.proofs.PlacedLemmas.{read_item}
use Rattle.rule_reads.specs.Reads.{FitsOwn}
use Rattle.rule_reads.proofs.Chains.{IsLeftOrHolds, left_start, left_step, left_end}
use Rattle.rule_reads.proofs.reads.Reads.own_fits_along.Goals as goal

pub loop-index-init : goal.loop-index-init
loop-index-init c =
    subst (IsLeftOrHolds c.args.marks.now c.args.mark (FitsOwn c.args.scope.rules.now c.args.self.now) c.args.scope.tuples.now)
    (sym (c.into_iter-index-iterator.ensures.into_iter_gives ∙ c.with-index-items.ensures))
    (left_start c.args.marks.now c.args.mark (FitsOwn c.args.scope.rules.now c.args.self.now) c.args.scope.tuples.now)

pub loop-index-preserved : goal.loop-index-preserved
loop-index-preserved c =
    let left = subst (IsLeftOrHolds c.args.marks.now c.args.mark (FitsOwn c.args.scope.rules.now c.args.self.now) c.args.scope.tuples.now) c.in-Some.ensures.steps c.loop-index.invariant in
    let here = read_item c.args.scope.tuples.now c.args.scope.tuples.now c.in-Some.index c.in-Some-get.tuple.now refl c.in-Some-get.ensures.lookup.3.0 c.in-Some-get.ensures.lookup.1 in
    let fits : c.own_fits.result ≡ true = search rules in
    left_step c.args.marks.now c.args.mark (FitsOwn c.args.scope.rules.now c.args.self.now) c.args.scope.tuples.now c.in-Some.index _ c.in-Some-get.tuple.now here (c.own_fits.ensures fits) left

pub returns : goal.returns
returns c all =
    left_end c.args.marks.now c.args.mark (FitsOwn c.args.scope.rules.now c.args.self.now) c.args.scope.tuples.now
    (subst (IsLeftOrHolds c.args.marks.now c.args.mark (FitsOwn c.args.scope.rules.now c.args.self.now) c.args.scope.tuples.now) c.in-None.ensures.steps.0 c.loop-index.invariant)
