use Rattle.tuple_text.specs.Grammar.{tuple_text}
use Rattle.tuple_text.specs.TupleRefs.{tuple_value}
use Rattle.compact_json.proofs.Compact.{split_quoted}
use Rattle.trace_lines.proofs.written.tuple_before.Goals as goal

pub returns-clause-text : goal.returns-clause-text
returns-clause-text c =
    let tuple = tuple_text (tuple_value c.in_ok-tuple.tuple) in
    rw c.in_ok-behind.ensures (split_quoted c.in_ok-behind.field-0.now tuple c.in_ok-tuple.rest.now c.in_ok-tuple.ensures.parts)
