use Rattle.std.proofs.Common.{rules, ◌≡◌, [], ◌∷◌, ◌++◌, map}
use Rattle.std.proofs.lemmas.List.{map-append}
use Rattle.tuple_text.specs.FactRefs.{fact_value}
use Rattle.tuple_text.specs.Grammar.{IsFact}
use Rattle.evidence_check.specs.RecordData.{fact_data}
use Rattle.evidence_check.proofs.RecordPieces.{first_item, next_item}
use Rattle.evidence_check.proofs.written.facts_before.Goals as goal

pub loop-next-init : goal.loop-next-init
loop-next-init c =
    let pushed : c.push.new.self.items ≡ c.in_ok-fact.fact ∷ [] = search rules in
    let first = first_item fact_data IsFact (34 ∷ c.args.text.now) c.in_ok-fact.rest.now (fact_value c.in_ok-fact.fact)
    (search rules) in
    (rw pushed first, search rules)

pub loop-next-preserved : goal.loop-next-preserved
loop-next-preserved c =
    let pushed : c.push-in-Some.new.self.items ≡ c.loop-next.facts.items ++ c.in_ok-fact-2.fact ∷ [] = search rules in
    let facts = map fact_value c.loop-next.facts.items in
    let grown = next_item fact_data IsFact (34 ∷ c.args.text.now) c.loop-next.rest.now (34 ∷ c.in-Some.next.now)
    c.in_ok-fact-2.after.now facts (fact_value c.in_ok-fact-2.fact) (search rules) (search rules) (search rules) in
    (rw (pushed, map-append fact_value c.loop-next.facts.items (c.in_ok-fact-2.fact ∷ [])) grown, search rules)
