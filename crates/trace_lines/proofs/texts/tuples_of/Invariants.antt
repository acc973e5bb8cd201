use Rattle.std.proofs.Common.{◌∷◌}
use Rattle.serde_json.specs.Find.{as_str}
use Rattle.tuple_text.specs.TupleRefs.{tuple_values}
use Rattle.trace_lines.specs.Texts.{tuple_of_text, tuples_of}
use Rattle.json_lines.proofs.ItemLoops.{IsReadTo}
use Rattle.trace_lines.proofs.texts.tuples_of.Given as goal

abbrev pub invariant-loop-item : goal.invariant-loop-item
invariant-loop-item l = IsReadTo (λ d. tuple_of_text (as_str d)) (λ t ts. t ∷ ts) tuples_of (tuple_values l.tuples.items) l.item-index l.items
