use Rattle.std.proofs.Common.{rules, ◌≡◌, ◌+◌, [], map, drop}
use Rattle.std.proofs.lemmas.List.{drop_all}
use Rattle.std.proofs.lemmas.Result.{on_ok_weaker}
use Rattle.std.specs.Prelude.{string_bytes}
use Rattle.rewrites.specs.Expression.{this, computed, tuple_to, minus, child}
use Rattle.rewrites.specs.Plain.{leaves, leaves_of_all}
use Rattle.rewrites.specs.View.{expression_of, expressions_of}
use Rattle.rewrites.specs.declared.rewrite.Rewrite.{Rewrite, the_lemmas}
use Rattle.rewrites.proofs.Walks.{children_step}
use Rattle.rewrites.proofs.LeavesLemmas.{collects_leaf, collects_on, collects_both, collects_done}
use Rattle.rewrites.proofs.leaves.+collect.Goals as goal

pub collect-returns-in-This : goal.collect-returns-in-This
collect-returns-in-This t c =
    let e : expression_of c.args.rewrite.now ≡ this = rw c.in-This.is (search (rules, the_lemmas)) in
    let leaf : expression_of Rewrite.This ≡ this = search (rules, the_lemmas) in
    rw e (on_ok_weaker c.put.result
    (collects_leaf (map expression_of c.args.kept.now.items) (map expression_of c.put.new.kept.items) (expression_of Rewrite.This) this leaf) c.put.ensures)

pub collect-returns-in_ok-clone-in-Computed : goal.collect-returns-in_ok-clone-in-Computed
collect-returns-in_ok-clone-in-Computed t c =
    let e : expression_of c.args.rewrite.now ≡ computed (string_bytes c.in-Computed.relation) = rw c.in-Computed.is (search (rules, the_lemmas)) in
    let x = Rewrite.Computed c.in_ok-clone-in-Computed.field-0 in
    let leaf : expression_of x ≡ computed (string_bytes c.in-Computed.relation) = search (rules, the_lemmas) in
    rw e (on_ok_weaker c.put-in-Computed.result
    (collects_leaf (map expression_of c.args.kept.now.items) (map expression_of c.put-in-Computed.new.kept.items)
    (expression_of x) (computed (string_bytes c.in-Computed.relation)) leaf) c.put-in-Computed.ensures)

pub collect-returns-in_ok-leaf-in-TupleTo : goal.collect-returns-in_ok-leaf-in-TupleTo
collect-returns-in_ok-leaf-in-TupleTo t c =
    let leaf = tuple_to (string_bytes c.in-TupleTo.tupleset) (string_bytes c.in-TupleTo.computed) in
    let e : expression_of c.args.rewrite.now ≡ leaf = rw c.in-TupleTo.is (search (rules, the_lemmas)) in
    rw e (on_ok_weaker c.put-in-TupleTo.result
    (collects_leaf (map expression_of c.args.kept.now.items) (map expression_of c.put-in-TupleTo.new.kept.items)
    (expression_of c.in_ok-leaf-in-TupleTo.leaf) leaf c.in_ok-leaf-in-TupleTo.ensures) c.put-in-TupleTo.ensures)

pub collect-returns-in_ok-collect-in-Minus : goal.collect-returns-in_ok-collect-in-Minus
collect-returns-in_ok-collect-in-Minus t c =
    let base = expression_of c.deref.result.now in
    let subtract = expression_of c.deref-in-Minus.result.now in
    let e : expression_of c.args.rewrite.now ≡ minus base subtract = rw c.in-Minus.is (search (rules, the_lemmas)) in
    rw e (on_ok_weaker c.collect-in-Minus.result
    (collects_both (map expression_of c.args.kept.now.items) (map expression_of c.collect.new.kept.items)
    (map expression_of c.collect-in-Minus.new.kept.items) (leaves base) (leaves subtract) c.in_ok-collect-in-Minus.ensures)
    c.collect-in-Minus.ensures)

pub collect_all-loop-child-preserved : goal.collect_all-loop-child-preserved
collect_all-loop-child-preserved t c =
    let es = c.deref-child-items.result.now in
    let i = c.loop-child.child-index in
    let x = expression_of c.child-item.result in
    let rest = expressions_of (drop (i + 1) es) in
    let left : expressions_of (drop i es) ≡ child x rest = rw c.child-item.is (children_step es i c.child-item.result c.loop-child-test.true) in
    collects_on (map expression_of c.loop-child.kept.items) (map expression_of c.collect.new.kept.items) (leaves x) (leaves_of_all rest)
    _ c.in_ok-collect.ensures (rw left at c.loop-child.invariant)

pub collect_all-returns : goal.collect_all-returns
collect_all-returns t c =
    let es = c.deref-child-items.result.now in
    let none : drop c.loop-child.child-index es ≡ [] = drop_all c.loop-child.child-index es c.loop-child-test.false in
    rw (← c.deref-child-items.ensures.value) (collects_done (map expression_of c.loop-child.kept.items) _ (rw none at c.loop-child.invariant))
