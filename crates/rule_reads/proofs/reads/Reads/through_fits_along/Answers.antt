use Rattle.std.proofs.Common.{rules, ◌≡◌, ◌∙◌, true, subst, sym}
use Rattle.marks.proofs.PlacedLemmas.{read_item}
use Rattle.rule_reads.specs.Reads.{IsLowWhereStored}
use Rattle.rule_reads.proofs.Chains.{IsLeftOrHolds, left_start, left_step, left_end}
use Rattle.rule_reads.proofs.reads.Reads.through_fits_along.Goals as goal

pub loop-index-init : goal.loop-index-init
loop-index-init c =
    subst (IsLeftOrHolds c.args.marks.now c.args.mark (IsLowWhereStored c.args.scope.rules.now c.args.scope.kinds.now c.args.users.now) c.args.self.now.through.items)
    (sym (c.into_iter-index-iterator.ensures.into_iter_gives ∙ c.with-index-items.ensures))
    (left_start c.args.marks.now c.args.mark (IsLowWhereStored c.args.scope.rules.now c.args.scope.kinds.now c.args.users.now) c.args.self.now.through.items)

pub loop-index-preserved : goal.loop-index-preserved
loop-index-preserved c =
    let left = subst (IsLeftOrHolds c.args.marks.now c.args.mark (IsLowWhereStored c.args.scope.rules.now c.args.scope.kinds.now c.args.users.now) c.args.self.now.through.items) c.in-Some.ensures.steps c.loop-index.invariant in
    let here = read_item c.args.self.now.through.items c.deref.result.now c.in-Some.index c.in-Some-get.through.now c.deref.ensures.value c.in-Some-get.ensures.lookup.3.0 c.in-Some-get.ensures.lookup.1 in
    let fits : c.fits.result ≡ true = search rules in
    left_step c.args.marks.now c.args.mark (IsLowWhereStored c.args.scope.rules.now c.args.scope.kinds.now c.args.users.now) c.args.self.now.through.items c.in-Some.index _ c.in-Some-get.through.now here (c.fits.ensures fits) left

pub returns : goal.returns
returns c all =
    left_end c.args.marks.now c.args.mark (IsLowWhereStored c.args.scope.rules.now c.args.scope.kinds.now c.args.users.now) c.args.self.now.through.items
    (subst (IsLeftOrHolds c.args.marks.now c.args.mark (IsLowWhereStored c.args.scope.rules.now c.args.scope.kinds.now c.args.users.now) c.args.self.now.through.items) c.in-None.ensures.steps.0 c.loop-index.invariant)
