use Rattle.std.proofs.Common.{rules, ◌≡◌, ◌↔◌, IsTrue, List, map, subst}
use Rattle.std.specs.List.{AllByRecursion}
use Rattle.tuple_text.specs.FactRefs.{fact_value}
use Rattle.namespaces.specs.Lookup.{rule_at}
use Rattle.version_chains.specs.Commits.{store_at}
use Rattle.judgement.specs.Facts.{marked_fact}
use Rattle.judgement.specs.Judgement.{KnownValue}
use Rattle.judgement.specs.declared.fact.MarkedFact.{MarkedFact}
use Rattle.evidence_check.specs.Accepted.{IsDisproved, with_no}
use Rattle.evidence_check.specs.Growing.{AreFresh}
use Rattle.evidence_check.specs.Steps.{no_step}
use Rattle.evidence_check.proofs.Growing.{fresh_decide}
use Rattle.evidence_check.proofs.Taking.{taken}
use Rattle.evidence_check.proofs.judged.take_no.Goals as goal

pub returns-clause-taken : goal.returns-clause-taken
returns-clause-taken c =
    let lookup = rule_at c.args.asked.now.declarations c.args.at in
    let store = store_at c.args.asked.now.commits c.args.at in
    let facts = map fact_value c.args.facts.now in
    let fresh = map marked_fact c.deny_each.new.fresh.items in
    let are_all = c.in_ok-are_all.are_all in
    let known : c.deny_each.new.known ≡ with_no c.args.known.now facts = search rules in
    let are : AreFresh c.args.known.now.no c.deny_each.new.known.no fresh = search rules in
    let among : AreFresh c.args.known.now.no (with_no c.args.known.now facts).no fresh =
    subst (λ (k : KnownValue). AreFresh c.args.known.now.no k.no fresh) known are in
    let each : IsTrue are_all ↔ AllByRecursion (IsDisproved lookup store (with_no c.args.known.now facts)) fresh =
    subst (λ (k : KnownValue). IsTrue are_all ↔ AllByRecursion (IsDisproved lookup store k) fresh) known
    (subst
    (λ (xs : List MarkedFact). IsTrue are_all
    ↔ AllByRecursion (IsDisproved lookup store c.deny_each.new.known) (map marked_fact xs))
    c.deref.ensures.value c.in_ok-are_all.ensures.disproved) in
    let all = fresh_decide lookup store c.args.known.now facts fresh c.requires.borne among in
    taken c.args.asked.now c.args.at c.args.known.now _ (no_step facts) are_all c.requires.borne
    (λ t. all.0 (each.0 t), λ h. each.1 (all.1 h)) known
