use Rattle.std.proofs.Common.{rules, ◌≡◌, ◌+◌, true, [], drop, sym, ap, ◌∙◌, subst, List, arith}
use Rattle.std.proofs.lemmas.List.{drop_all}
use Rattle.rewrites.specs.declared.rewrite.Rewrite.{Rewrite, the_lemmas}
use Rattle.rewrites.specs.Expression.{Expressions, minus, child}
use Rattle.rewrites.specs.View.{expression_of, expressions_of}
use Rattle.strata.specs.Edges.{places, all_places}
use Rattle.strata.proofs.Walks.{children_step}
use Rattle.rule_reads.specs.Reads.{IsWider}
use Rattle.rule_reads.proofs.Reading.{fits_then, wider_then, wider_by_nothing}
use Rattle.rule_reads.proofs.reads.Reads.+take_rewrite.Goals as goal

pub take_children-loop-child-preserved : goal.take_children-loop-child-preserved
take_children-loop-child-preserved t c z rest =
    let items = c.deref-child-items.result.now in
    let i = c.loop-child.child-index in
    let taken : c.in_ok-take_rewrite.field-0 ≡ true = search rules in
    let shown : expressions_of (drop i items) ≡ child (expression_of c.child-item.result) (expressions_of (drop (i + 1) items)) =
    children_step items i c.child-item.result c.loop-child-test.true ∙ ap (λ (r : Rewrite). child (expression_of r) (expressions_of (drop (i + 1) items))) (sym c.child-item.is) in
    c.loop-child.invariant z
    (subst (λ (es : Expressions). IsWider c.args.scope.rules.now c.args.scope.tuples.now c.args.reader.namespace.now c.args.reader.relation.now c.args.reader.stratum (all_places c.args.strict es) c.loop-child.self z) (sym shown)
    (wider_then c.args.scope.rules.now c.args.scope.tuples.now c.args.reader.namespace.now c.args.reader.relation.now c.args.reader.stratum (places c.args.strict (expression_of c.child-item.result))
    (all_places c.args.strict (expressions_of (drop (i + 1) items))) c.loop-child.self c.take_rewrite.new.self z (c.in_ok-take_rewrite.ensures taken) rest))

pub take_children-returns : goal.take_children-returns
take_children-returns t c all =
    let items = c.deref-child-items.result.now in
    let past = c.loop-child-test.false in
    let none : drop c.loop-child.child-index items ≡ [] = drop_all c.loop-child.child-index items (omega (arith, past)) in
    rw c.deref-child-items.ensures.value at
    (c.loop-child.invariant c.loop-child.self
    (subst (λ (rs : List Rewrite). IsWider c.args.scope.rules.now c.args.scope.tuples.now c.args.reader.namespace.now c.args.reader.relation.now c.args.reader.stratum (all_places c.args.strict (expressions_of rs)) c.loop-child.self c.loop-child.self)
    (sym none)
    (wider_by_nothing c.args.scope.rules.now c.args.scope.tuples.now c.args.reader.namespace.now c.args.reader.relation.now c.args.reader.stratum c.loop-child.self)))

pub take_rewrite-returns-else-not-branch : goal.take_rewrite-returns-else-not-branch
take_rewrite-returns-else-not-branch t c =
    let base = expression_of c.in-Minus.base.value in
    let subtract = expression_of c.in-Minus.subtract.value in
    let shown : expression_of c.args.rewrite.now ≡ minus base subtract = search (rules, the_lemmas) in
    let taken : c.in_ok-take_rewrite-in-Minus.field-0 ≡ true = search rules in
    fits_then c.take_rewrite-in-Minus.result
    (λ rest. rw shown
    (wider_then c.args.scope.rules.now c.args.scope.tuples.now c.args.reader.namespace.now c.args.reader.relation.now c.args.reader.stratum (places c.args.strict base) (places true subtract)
    c.args.self.now c.take_rewrite.new.self c.take_rewrite-in-Minus.new.self (rw c.deref-in-Minus.ensures at (c.in_ok-take_rewrite-in-Minus.ensures taken)) rest))
    (rw c.deref-in-Minus-2.ensures at c.take_rewrite-in-Minus.ensures)
