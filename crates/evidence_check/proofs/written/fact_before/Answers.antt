use Rattle.tuple_text.specs.FactRefs.{fact_value}
use Rattle.evidence_check.proofs.RecordPieces.{fact_there}
use Rattle.evidence_check.proofs.written.fact_before.Goals as goal

pub returns : goal.returns
returns c =
    let fact = c.in_ok-fact in
    fact_there c.args.text.now fact.rest.now (fact_value fact.fact) fact.ensures.parts fact.ensures.form
