use Rattle.std.proofs.Common.{◌∙◌, ap, Bor, ℕ, List, [], Option, unwrap_or}
use Rattle.serde_json.specs.View.{view}
use Rattle.trace_lines.proofs.Declared.{after_change, change_made, over_change, index_before, same_count, shown_or}
use Rattle.trace_lines.proofs.RefusedEdges.{edges_refuse}
use Rattle.trace_lines.proofs.declaring.make_change.Goals as goal

pub check-requires : goal.check-requires
check-requires c = after_change c.args.rules.now c.change.new.self c.args.at (view c.args.value.now) c.in-Ok.ensures.exact c.requires.unbroken

pub follow-requires-clause-over : goal.follow-requires-clause-over
follow-requires-clause-over c =
    let text : Bor (List ℕ) → List ℕ = λ s. s.now in
    over_change c.args.rules.now c.change.new.self c.args.at (view c.args.value.now) c.args.sample.now c.unwrap_or-namespace.result.now _ c.in-Ok.ensures.exact
    c.relation_count.ensures.well_formed
    (ap text c.unwrap_or-namespace.ensures ∙ shown_or text c.text_at.result _ ∙ ap (λ (o : Option (List ℕ)). unwrap_or o []) c.text_at.ensures)
    (λ same. same_count c.relation_count.result c.relation_count-known.result _ _ c.relation_count.ensures.value c.relation_count-known.ensures.value same)
    c.requires.tuples

pub follow-requires-clause-index : goal.follow-requires-clause-index
follow-requires-clause-index c =
    let text : Bor (List ℕ) → List ℕ = λ s. s.now in
    index_before c.args.rules.now c.change.new.self c.unwrap_or-namespace.result.now c.relation_count-known.result c.args.index.now c.args.sample.now (view c.args.value.now)
    (change_made c.args.rules.now c.change.new.self c.args.at (view c.args.value.now) c.in-Ok.ensures.exact) c.relation_count.ensures.well_formed
    (ap text c.unwrap_or-namespace.ensures ∙ shown_or text c.text_at.result _ ∙ ap (λ (o : Option (List ℕ)). unwrap_or o []) c.text_at.ensures)
    c.relation_count-known.ensures.value c.requires.index

pub returns-in_err-follow-clause-answer : goal.returns-in_err-follow-clause-answer
returns-in_err-follow-clause-answer c =
    rw (c.in-Ok.ensures.exact, ← c.in_ok-check.ensures)
    (edges_refuse _ c.from_residual-in_err-follow.result _ _ _ c.from_residual-in_err-follow.ensures.1 c.in_err-follow.ensures.answer)
