use Rattle.std.proofs.Common.{rules, [], ◌∷◌, refl, sym, ap, ◌∙◌, append_assoc}
use Rattle.std.proofs.lemmas.List.{map-append}
use Rattle.serde_json.specs.Find.{as_str}
use Rattle.tuple_text.specs.TupleRefs.{tuple_value, tuple_values}
use Rattle.trace_lines.specs.Causes.{is_memory}
use Rattle.trace_lines.specs.Texts.{tuple_of_text, tuples_of}
use Rattle.json_lines.proofs.ItemLoops.{ReadsEach, read_to_first, read_to_next, read_fails, all_read}
use Rattle.trace_lines.proofs.texts.tuples_of.Goals as goal

each_is_read : ReadsEach (λ d. tuple_of_text (as_str d)) (λ t ts. t ∷ ts) tuples_of
each_is_read = record {
  none = refl;
  some = λ d ds. refl;
  in_front = λ t front rest. sym (append_assoc front (t ∷ []) rest);
}

pub loop-item-init : goal.loop-item-init
loop-item-init c = rw c.new-tuples.ensures.items (read_to_first _ _ tuples_of each_is_read c.args.items.now)

pub loop-item-preserved : goal.loop-item-preserved
loop-item-preserved c =
    let pushed = ap tuple_values c.in_ok-push.ensures.items ∙ map-append tuple_value c.loop-item.tuples.items (c.in_ok-tuple_of_text.field-0 ∷ []) in
    read_to_next _ _ tuples_of each_is_read c.args.items.now c.loop-item.item-index c.item-item.result (tuple_values c.loop-item.tuples.items)
    c.loop-item-test.true c.item-item.is c.loop-item.invariant (tuple_value c.in_ok-tuple_of_text.field-0) (tuple_values c.push.new.self.items)
    (ap tuple_of_text (sym c.as_str.ensures) ∙ c.in_ok-tuple_of_text.ensures) pushed

pub returns-in_err-tuple_of_text : goal.returns-in_err-tuple_of_text
returns-in_err-tuple_of_text c =
    let told = read_fails _ _ tuples_of each_is_read c.args.items.now c.loop-item.item-index c.item-item.result (tuple_values c.loop-item.tuples.items)
    c.loop-item-test.true c.item-item.is c.loop-item.invariant is_memory c.in_err-tuple_of_text.field-0.0 (rw (← c.as_str.ensures) c.in_err-tuple_of_text.ensures) in
    search rules

pub returns : goal.returns
returns c = all_read _ _ tuples_of each_is_read c.args.items.now _ _ c.loop-item-test.false c.loop-item.invariant
