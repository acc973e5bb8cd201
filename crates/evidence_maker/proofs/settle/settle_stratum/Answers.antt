use Rattle.std.proofs.Common.{◌≡◌, ◌∙◌}
use Rattle.namespaces.specs.Lookup.{rule_at}
use Rattle.version_chains.specs.Commits.{store_at}
use Rattle.evidence_check.specs.Steps.{step_values}
use Rattle.evidence_maker.specs.Making.{IsMaking}
use Rattle.evidence_maker.proofs.MakingLemmas.{unsettled_left, ok_then}
use Rattle.evidence_maker.proofs.settle.settle_stratum.Goals as goal

pub returns-clause-asked : goal.returns-clause-asked
returns-clause-asked c = c.in_ok-left.ensures.asked ∙ c.in_ok-look_at_each.ensures.asked

pub returns-clause-making : goal.returns-clause-making
returns-clause-making c =
    let lookup = rule_at c.args.asked.now.declarations c.args.at in
    let store = store_at c.args.asked.now.commits c.args.at in
    let looked : c.look_at_each.new.asked ≡ c.args.asked.now = c.in_ok-look_at_each.ensures.asked in
    let layered : c.settle_layer.new.asked ≡ c.args.asked.now = c.in_ok-left.ensures.asked ∙ looked in
    let layer = c.in_ok-layer.ensures lookup c.requires in
    let kept = rw looked at c.in_ok-left.ensures.kept in
    let left = rw looked at c.in_ok-left.ensures.left in
    ok_then c.leave.result _ _
    (λ h premises distinct before.
    let making : IsMaking lookup store c.args.cone.now c.args.stratum c.settle_layer.new.known (step_values c.settle_layer.new.steps.items) =
    kept c.args.cone.now c.args.stratum (λ f d. ((layer.each f).0 d).0) (c.in_ok-look_at_each.ensures.kept c.args.stratum before) in
    h c.args.cone.now c.args.stratum premises
    (unsettled_left lookup store c.args.cone.now c.args.stratum
    c.settle_layer.new.known (step_values c.settle_layer.new.steps.items) making c.in_ok-layer.layer.items layer c.in_ok-left.left.items left)
    left.unproved (left.those.distinct (layer.distinct distinct)) making)
    (rw (c.trace.ensures, layered) at c.leave.ensures)
