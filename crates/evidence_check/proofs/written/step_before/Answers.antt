use Rattle.std.proofs.Common.{rules, ◌∷◌, map}
use Rattle.tuple_text.specs.FactRefs.{fact_value}
use Rattle.evidence_check.proofs.RecordPieces.{yes_there, no_there}
use Rattle.evidence_check.proofs.written.step_before.Goals as goal

pub returns-in-Some : goal.returns-in-Some
returns-in-Some c =
    yes_there c.args.text.now (34 ∷ c.in-Some.rest.now) c.in_ok-fact.rest.now c.in_ok-behind.field-0.now
    (fact_value c.in_ok-fact.fact) (search rules) (search rules) (search rules)

pub returns : goal.returns
returns c =
    no_there c.args.text.now (34 ∷ c.in_ok-behind-2.field-0.now) c.in_ok-facts.rest.now c.in_ok-behind-3.field-0.now
    (map fact_value c.in_ok-facts.facts.items) (search rules) (search rules) (search rules)
