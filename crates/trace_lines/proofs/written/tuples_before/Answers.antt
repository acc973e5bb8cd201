use Rattle.std.proofs.Common.{[], ◌∷◌, ◌++◌, rules, refl, ap, sym, subst, ◌∙◌}
use Rattle.std.proofs.lemmas.List.{map-append}
use Rattle.tuple_text.specs.TupleRefs.{tuple_value, tuple_values}
use Rattle.trace_lines.specs.Written.{AreTuples, list_text}
use Rattle.trace_lines.proofs.WrittenCommits.{list_closed, more_of, tuples_more, with_commas}
use Rattle.trace_lines.proofs.written.tuples_before.Goals as goal

pub returns-in-Some-behind-clause-text : goal.returns-in-Some-behind-clause-text
returns-in-Some-behind-clause-text c =
    let old = c.loop-tuple.tuples.items in
    let pushed = ap tuple_values c.in_ok-push.ensures.items ∙ map-append tuple_value old (c.in-Some-tuple_before.tuple ∷ []) in
    c.loop-tuple.invariant.1
    ∙ ap (λ l. with_commas (tuple_values old) ++ l) (rw (c.in-Some-tuple_before.ensures.text, c.in-Some-behind.ensures) refl)
    ∙ list_closed (tuple_values old) (tuple_value c.in-Some-tuple_before.tuple) c.in-Some-behind.end.now
    ∙ ap (λ ts. list_text ts c.in-Some-behind.end.now) (sym pushed)

pub loop-tuple-preserved : goal.loop-tuple-preserved
loop-tuple-preserved c =
    let old = c.loop-tuple.tuples.items in
    let pushed = ap tuple_values c.in_ok-push.ensures.items ∙ map-append tuple_value old (c.in-Some-tuple_before.tuple ∷ []) in (
      search rules,
      c.loop-tuple.invariant.1
          ∙ ap (λ l. with_commas (tuple_values old) ++ l) (rw (c.in-Some-tuple_before.ensures.text, c.in-Some-behind-2.ensures) refl)
          ∙ sym (more_of (tuple_values old) (tuple_value c.in-Some-tuple_before.tuple) c.in-Some-behind-2.next.now)
          ∙ ap (λ ts. with_commas ts ++ c.in-Some-behind-2.next.now) (sym pushed),
      subst AreTuples (sym pushed) (tuples_more (tuple_values old) (tuple_value c.in-Some-tuple_before.tuple) c.loop-tuple.invariant.2 c.in-Some-tuple_before.ensures.tuple),
    )
