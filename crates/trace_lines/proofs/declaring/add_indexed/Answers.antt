use Rattle.std.proofs.Common.{◌∙◌, ap, Bor, ℕ, List, [], Option, unwrap_or}
use Rattle.serde_json.specs.View.{view}
use Rattle.namespaces.proofs.Growth.{well_formed_add}
use Rattle.trace_lines.proofs.Declared.{addition_made, index_before, shown_or}
use Rattle.trace_lines.proofs.Orderly.{namespace_made}
use Rattle.trace_lines.proofs.declaring.add_indexed.Goals as goal

pub begin-requires : goal.begin-requires
begin-requires c =
    let text : Bor (List ℕ) → List ℕ = λ s. s.now in
    let made = namespace_made c.args.begun c.args.rules.now c.add.new.rules (view c.args.value.now) c.in_ok-add.ensures.answer in
    index_before c.args.rules.now c.add.new.rules c.unwrap_or-namespace.result.now c.relation_count-known.result c.args.index.now c.args.sample.now (view c.args.value.now)
    (addition_made c.args.rules.now c.add.new.rules (view c.args.value.now) made)
    (well_formed_add c.args.rules.now (view c.args.value.now) c.add.new.rules c.relation_count-known.ensures.well_formed made)
    (ap text c.unwrap_or-namespace.ensures ∙ shown_or text c.text_at.result _ ∙ ap (λ (o : Option (List ℕ)). unwrap_or o []) c.text_at.ensures)
    c.relation_count-known.ensures.value c.requires.index
