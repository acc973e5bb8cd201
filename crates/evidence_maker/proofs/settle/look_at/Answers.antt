use Rattle.std.proofs.Common.{rules, ◌≡◌, ◌∷◌, ◌++◌, [], IsTrue, false, inl}
use Rattle.std.proofs.lemmas.List.Elements.{Contains-push}
use Rattle.namespaces.specs.Lookup.{rule_at}
use Rattle.version_chains.specs.Commits.{store_at}
use Rattle.evidence_check.specs.Accepted.{with_yes}
use Rattle.evidence_check.specs.Steps.{yes_step, step_values}
use Rattle.evidence_maker.specs.Making.{IsKnown}
use Rattle.evidence_maker.proofs.MakingLemmas.{making_yes, step_values-push}
use Rattle.evidence_check.proofs.Growing.{with_yes-grows}
use Rattle.evidence_maker.proofs.settle.look_at.Goals as goal

pub returns-clause-kept : goal.returns-clause-kept
returns-clause-kept c = λ C k inside making.
    let proved_true : IsTrue c.in_ok-is_proved_by.field-0 = c.if-not-branch.false in
    let unknown : ¬ IsKnown c.args.known.now c.args.fact.now =
    (λ h. let t : IsTrue c.is_known.result = c.is_known.ensures.1 h in let f : c.is_known.result ≡ false = c.if-is_known.false in cc) in
    let known : c.add_yes.new.self ≡ with_yes c.args.known.now c.args.fact.now = search rules in
    let same : c.in_ok-clone.field-0 ≡ c.args.fact.now = search rules in
    let steps : step_values c.push.new.self.items ≡ step_values c.args.steps.now.items ++ yes_step c.args.fact.now ∷ [] =
    rw (c.in_ok-push.ensures.items, ← same) (step_values-push c.args.steps.now.items _) in
    rw (known, steps)
    (making_yes (rule_at c.args.asked.now.declarations c.args.at) (store_at c.args.asked.now.commits c.args.at) C k c.args.known.now (step_values c.args.steps.now.items)
    making c.args.fact.now inside (c.in_ok-is_proved_by.ensures.proved.0 proved_true) unknown)

pub returns-clause-grows : goal.returns-clause-grows
returns-clause-grows c =
    let known : c.add_yes.new.self ≡ with_yes c.args.known.now c.args.fact.now = search rules in
    rw known (with_yes-grows c.args.known.now c.args.fact.now)

pub returns-clause-settled : goal.returns-clause-settled
returns-clause-settled c = λ e.
    let known : c.add_yes.new.self ≡ with_yes c.args.known.now c.args.fact.now = search rules in
    rw known (inl (Contains-push c.args.known.now.yes c.args.fact.now))

pub returns-clause-left : goal.returns-clause-left
returns-clause-left c = λ e. absurd (cc)
