use Rattle.std.proofs.Common.{rules, ◌≡◌, ◌↔◌, IsTrue, true}
use Rattle.namespaces.specs.Lookup.{rule_at}
use Rattle.version_chains.specs.Commits.{store_at}
use Rattle.judgement.specs.Facts.{marked_fact}
use Rattle.evidence_check.specs.Accepted.{IsProved, after_step}
use Rattle.evidence_check.specs.Steps.{yes_step}
use Rattle.evidence_check.proofs.Taking.{taken}
use Rattle.evidence_check.proofs.judged.take_yes.Goals as goal
use Rattle.evidence_check.proofs.judged.take_yes.Goals.{then-yes_marked, else-yes_marked+in_ok-proved}

pub returns-clause-taken : goal.returns-clause-taken
returns-clause-taken c =
    let lookup = rule_at c.args.asked.now.declarations c.args.at in
    let store = store_at c.args.asked.now.commits c.args.at in
    let fact = marked_fact c.args.fact in
    let proved = c.if-yes_marked.proved in
    let proves : IsTrue proved ↔ IsProved lookup store c.args.known.now fact = elim c.if-yes_marked.branch [
      | then-yes_marked w ↦
          let is : proved ≡ true = search rules in
          (λ t. c.requires.borne.yes fact (c.yes_marked.ensures.0 w.if-yes_marked.true), λ p. is)
      | else-yes_marked+in_ok-proved w ↦
          let is : proved ≡ w.in_ok-proved.proved = search rules in
          rw is w.in_ok-proved.ensures.settled
    ] in
    let known : c.add_yes.new.self ≡ after_step c.args.known.now (yes_step fact) = search rules in
    taken c.args.asked.now c.args.at c.args.known.now _ (yes_step fact) proved c.requires.borne proves known
