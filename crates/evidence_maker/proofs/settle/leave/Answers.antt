use Rattle.std.proofs.Common.{rules, ◌≡◌, ◌∷◌, ◌++◌, [], length, ap, arith}
use Rattle.namespaces.specs.Lookup.{rule_at}
use Rattle.version_chains.specs.Commits.{store_at}
use Rattle.evidence_check.specs.Accepted.{with_no}
use Rattle.evidence_check.specs.Steps.{no_step, step_values}
use Rattle.evidence_maker.proofs.MakingLemmas.{making_no, making_none, is_none_left, step_values-push}
use Rattle.evidence_maker.proofs.Own.{own_relations_law}
use Rattle.evidence_maker.proofs.settle.leave.Goals as goal

pub returns-then-is_empty : goal.returns-then-is_empty
returns-then-is_empty c = λ C k premises left unproved distinct making.
    let empty : length c.args.left.items ≡ 0 = search rules in
    let none : c.args.left.items ≡ [] = is_none_left c.args.left.items (omega (arith, empty)) in
    making_none (rule_at c.args.trace.now.declarations c.args.at) (store_at c.args.trace.now.commits c.args.at)
    (own_relations_law c.args.trace.now.declarations (rw c.rules.ensures.declarations at c.well_formed-2.ensures) c.args.at) (c.rules.ensures.strata c.args.at) C premises k c.args.known.now
    (step_values c.args.steps.now.items) making c.args.left.items left unproved none

pub returns : goal.returns
returns c = λ C k premises left unproved distinct making.
    let nothing : ¬ (length c.args.left.items ≡ 0) = search rules in
    let known : c.add_each_no.new.known ≡ with_no c.args.known.now c.args.left.items = search rules in
    let steps : step_values c.push.new.self.items ≡ step_values c.args.steps.now.items ++ no_step c.args.left.items ∷ [] =
    rw c.in_ok-push.ensures.items (step_values-push c.args.steps.now.items _) in
    rw (known, steps)
    (making_no (rule_at c.args.trace.now.declarations c.args.at) (store_at c.args.trace.now.commits c.args.at)
    (own_relations_law c.args.trace.now.declarations (rw c.rules.ensures.declarations at c.well_formed-2.ensures) c.args.at) (c.rules.ensures.strata c.args.at) C premises k c.args.known.now
    (step_values c.args.steps.now.items) making c.args.left.items left unproved (λ none. absurd (nothing (ap length none))) distinct)
