use Rattle.std.proofs.Common.{rules, ◌≡◌, [], ◌∷◌, ◌+◌, map, drop, add-one, refl}
use Rattle.std.proofs.Math.Seq.{drop-cons}
use Rattle.std.proofs.lemmas.List.{append-nil, drop_all}
use Rattle.std.proofs.lemmas.Result.{IfOk-weaker}
use Rattle.rewrites.specs.Joints.{joined, JoinPlain}
use Rattle.rewrites.specs.View.{expression_of}
use Rattle.rewrites.specs.declared.rewrite.Rewrite.{the_lemmas}
use Rattle.rewrites.proofs.PlainLemmas.{joined_on_plain, plain_minus, plain_then}
use Rattle.rewrites.proofs.plain.+plain_of.Goals as goal

pub plain_joined-loop-child-preserved : goal.plain_joined-loop-child-preserved
plain_joined-loop-child-preserved t c =
    let es = c.deref-child-items.result.now in
    let i = c.loop-child.child-index in
    let child = c.child-item.result in
    let left : drop i es ≡ child ∷ drop (i + 1) es = rw (drop-cons es i child c.loop-child-test.true, add-one, ← c.child-item.is) refl in
    joined_on_plain c.args.joint (map expression_of c.loop-child.kept.items) (map expression_of c.put_child.new.kept.items) (map expression_of (drop (i + 1) es))
    (map expression_of es) (expression_of child) (expression_of c.in_ok-plain_of.field-0) c.in_ok-plain_of.ensures c.in_ok-put_child.ensures (rw left at c.loop-child.invariant)

pub plain_joined-returns : goal.plain_joined-returns
plain_joined-returns t c =
    let es = c.deref-child-items.result.now in
    let kept = map expression_of c.loop-child.kept.items in
    let none : drop c.loop-child.child-index es ≡ [] = drop_all c.loop-child.child-index es c.loop-child-test.false in
    let all : JoinPlain c.args.joint kept (map expression_of es) = rw (none, append-nil kept) at c.loop-child.invariant in
    rw (← c.deref-child-items.ensures.value) (plain_then (expression_of c.join_kept.result) (joined c.args.joint kept) (joined c.args.joint (map expression_of es)) c.join_kept.ensures all)

pub plain_of-returns-in_ok-subtract-in-Minus : goal.plain_of-returns-in_ok-subtract-in-Minus
plain_of-returns-in_ok-subtract-in-Minus t c =
    IfOk-weaker c.minus.result _ _
    (λ r same. plain_minus _ _ _ (expression_of c.deref.result.now) _ (expression_of c.deref-in-Minus.result.now) same
    (rw c.in-Minus.is (search (rules, the_lemmas))) c.in_ok-base-in-Minus.ensures c.in_ok-subtract-in-Minus.ensures)
    c.minus.ensures
