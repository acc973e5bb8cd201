use Rattle.std.proofs.Common.{sym, codes, arith, rules}
use Rattle.serde_json.specs.View.{view}
use Rattle.rewrites.specs.declared.rewrite.Rewrite.{the_lemmas}
use Rattle.namespaces.specs.Shape.{only_form}
use Rattle.namespaces.proofs.Shapes.{expression_get, below_get, below_member_of, below_array}
use Rattle.namespaces.proofs.reading.+reading.Goals as goal

pub expression_at-expression-requires : goal.expression_at-expression-requires
expression_at-expression-requires t c = (
  omega (
    arith,
    below_member_of c.args.key.now (view c.args.value.now) (view c.in_ok-member.field-0.now)
        c.in_ok-member.ensures,
  ),
  tt,
)

pub expression-returns-in-Some-get : goal.expression-returns-in-Some-get
unfolding only_form
expression-returns-in-Some-get t c = rw (expression_get (view c.args.value.now)) (search (rules, the_lemmas))

pub expression-returns-in-Some-get-2 : goal.expression-returns-in-Some-get-2
unfolding only_form
expression-returns-in-Some-get-2 t c = rw (expression_get (view c.args.value.now)) (search (rules, the_lemmas))

pub expression-child_list-requires : goal.expression-child_list-requires
expression-child_list-requires t c = (omega (arith, below_get (codes "union") (view c.args.value.now) (view c.in-Some-get.list.now) (sym c.in-Some-get.ensures)), tt)

pub expression-child_list-requires-in-Some-get-2 : goal.expression-child_list-requires-in-Some-get-2
expression-child_list-requires-in-Some-get-2 t c = (omega (arith, below_get (codes "intersection") (view c.args.value.now) (view c.in-Some-get-2.list.now) (sym c.in-Some-get-2.ensures)), tt)

pub expression-exclusion-requires : goal.expression-exclusion-requires
expression-exclusion-requires t c = (omega (arith, below_member_of (codes "exclusion") (view c.args.value.now) (view c.in_ok-member.field-0.now) c.in_ok-member.ensures), tt)

pub child_list-expression-requires : goal.child_list-expression-requires
child_list-expression-requires t c =
    let listed = rw (← c.deref-value-items.ensures.value) at c.in_ok-values.ensures in
    (omega (arith, below_array (view c.args.value.now) _ _ _ listed c.loop-value-test.true c.value-item.is), tt)
