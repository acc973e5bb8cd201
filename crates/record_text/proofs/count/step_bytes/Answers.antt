use Rattle.std.proofs.Common.{◌-◌, ◌^◌, min, length, ap, ◌∙◌, arith}
use Rattle.serde_json.specs.Written.{compact_text}
use Rattle.evidence_check.specs.RecordData.{fact_data, facts_data}
use Rattle.record_text.proofs.Lengths.{yes_length, no_length}
use Rattle.record_text.proofs.count.step_bytes.Goals as goal

pub returns-in-Yes : goal.returns-in-Yes
returns-in-Yes c = rw c.in-Yes.is (omega (arith, c.saturating_add.ensures, c.fact_bytes.ensures, yes_length (fact_data c.in-Yes.fact)))

pub returns-in-No : goal.returns-in-No
returns-in-No c =
    let list = c.facts_bytes.ensures ∙ ap (λ fs. min (length (compact_text (facts_data fs))) (2 ^ 64 - 1)) c.deref.ensures.value in
    rw c.in-No.is (omega (arith, c.saturating_add-in-No.ensures, list, no_length (facts_data c.in-No.facts.items)))
