use Rattle.std.proofs.Common.{rules, ◌≡◌, ◌∙◌, ◌+◌, subst, ℕ}
use Rattle.namespaces.specs.Lookup.{rule_at}
use Rattle.version_chains.specs.Commits.{store_at}
use Rattle.evidence_check.specs.Steps.{step_values}
use Rattle.evidence_maker.specs.Making.{IsMaking}
use Rattle.evidence_maker.proofs.MakingLemmas.{made_of}
use Rattle.evidence_maker.proofs.StrataLemmas.{all_at_most}
use Rattle.evidence_maker.proofs.settle.settle.Goals as goal

pub returns-clause-made : goal.returns-clause-made
returns-clause-made c = λ premises distinct.
    let lookup = rule_at c.args.asked.now.declarations c.args.at in
    let store = store_at c.args.asked.now.commits c.args.at in
    let end : c.loop-stratum.stratum ≡ c.top_of.result + 1 = search rules in
    made_of lookup store c.args.cone.now c.top_of.result c.loop-stratum.known (step_values c.loop-stratum.steps.items)
    (subst (λ (n : ℕ). IsMaking lookup store c.args.cone.now n c.loop-stratum.known (step_values c.loop-stratum.steps.items)) end
    (c.loop-stratum.invariant.1 premises distinct))
    (all_at_most lookup c.args.cone.now c.as_slice-strata.result.now
    (c.as_slice-strata.ensures.value ∙ (rw (c.at-snapshot.ensures, c.timeline.ensures, c.trace.ensures) at c.in_ok-found.ensures)) c.top_of.result c.top_of.ensures)

pub settle_stratum-requires : goal.settle_stratum-requires
settle_stratum-requires c =
    rw c.loop-stratum.invariant.0 (c.as_slice-strata.ensures.value ∙ (rw (c.at-snapshot.ensures, c.timeline.ensures, c.trace.ensures) at c.in_ok-found.ensures))

pub loop-stratum-preserved : goal.loop-stratum-preserved
loop-stratum-preserved c = (
  c.in_ok-settle_stratum.ensures.asked ∙ c.loop-stratum.invariant.0,
  λ premises distinct. (rw c.loop-stratum.invariant.0 at c.in_ok-settle_stratum.ensures.making) premises distinct (c.loop-stratum.invariant.1 premises distinct),
)

pub returns-in_err-settle_stratum-clause-asked : goal.returns-in_err-settle_stratum-clause-asked
returns-in_err-settle_stratum-clause-asked c = c.in_err-settle_stratum.ensures.asked ∙ c.loop-stratum.invariant.0
