use Rattle.std.proofs.Common.{rules, ◌≡◌, ◌∙◌, false, inl, inr, sym, true}
use Rattle.rewrites.specs.Expression.{minus}
use Rattle.rewrites.specs.View.{expression_of}
use Rattle.rewrites.specs.declared.rewrite.Rewrite.{the_lemmas}
use Rattle.judgement.proofs.TableLemmas.{expressions_at, expressions_end, yes, no, refused, some_here, some_behind, each_here, each_behind}
use Rattle.judgement.proofs.table.+judge.Goals as goal

pub established-loop-child-init : goal.established-loop-child-init
established-loop-child-init g t c = rw c.in-Union.is (search (rules, the_lemmas))

pub established-loop-child-2-init : goal.established-loop-child-2-init
established-loop-child-2-init g t c = rw c.in-Inter.is (search (rules, the_lemmas))

pub refuted-loop-child-init : goal.refuted-loop-child-init
refuted-loop-child-init g t c = rw c.in-Union.is (search (rules, the_lemmas))

pub refuted-loop-child-2-init : goal.refuted-loop-child-2-init
refuted-loop-child-2-init g t c = rw c.in-Inter.is (search (rules, the_lemmas))

pub refuted-returns-then-refuted-2 : goal.refuted-returns-then-refuted-2
refuted-returns-then-refuted-2 g t c =
    let base = expression_of c.deref.result.now in
    let subtract = expression_of c.in-Minus.subtract.value in
    let e : expression_of c.args.rewrite.now ≡ minus base subtract =
    rw c.in-Minus.is (search (rules, the_lemmas)) in
    rw e (λ h. inl (c.refuted-in-Minus.ensures.0 c.if-refuted-2.true), λ h. c.if-refuted-2.true)

pub refuted-returns-else-refuted-2 : goal.refuted-returns-else-refuted-2
refuted-returns-else-refuted-2 g t c =
    let base = expression_of c.deref.result.now in
    let subtract = expression_of c.deref-else-refuted-2.result.now in
    let e : expression_of c.args.rewrite.now ≡ minus base subtract =
    rw c.in-Minus.is (search (rules, the_lemmas)) in
    rw e (
      λ h. inr (c.established.ensures.0 h),
      λ h. elim h [
        | inl a ↦ absurd (let no : true ≡ false = sym (c.refuted-in-Minus.ensures.1 a) ∙ c.if-refuted-2.false in cc)
        | inr b ↦ c.established.ensures.1 b
      ],
    )

pub established-returns-then-established : goal.established-returns-then-established
established-returns-then-established g t c =
    let left = rw (expressions_at c.deref-child-items.result.now c.loop-child.child-index c.child-item.result c.loop-child-test.true c.child-item.is) at c.loop-child.invariant in
    yes (some_here left (c.established.ensures.0 c.if-established.true))

pub established-loop-child-preserved : goal.established-loop-child-preserved
established-loop-child-preserved g t c =
    let left = rw (expressions_at c.deref-child-items.result.now c.loop-child.child-index c.child-item.result c.loop-child-test.true c.child-item.is) at c.loop-child.invariant in
    some_behind left (refused c.established.ensures c.if-established.false)

pub established-returns-after-loop-child : goal.established-returns-after-loop-child
established-returns-after-loop-child g t c =
    let left = rw (expressions_end c.deref-child-items.result.now c.loop-child.child-index c.loop-child-test.false) at c.loop-child.invariant in
    no left.1

pub established-returns-then-not-established : goal.established-returns-then-not-established
established-returns-then-not-established g t c =
    let left = rw (expressions_at c.deref-child-items-in-Inter.result.now c.loop-child-2.child-index c.child-item-in-loop-child-2.result c.loop-child-2-test.true c.child-item-in-loop-child-2.is) at c.loop-child-2.invariant in
    no (each_here left (refused c.established-in-loop-child-2.ensures c.if-not-established.true))

pub established-loop-child-2-preserved : goal.established-loop-child-2-preserved
established-loop-child-2-preserved g t c =
    let left = rw (expressions_at c.deref-child-items-in-Inter.result.now c.loop-child-2.child-index c.child-item-in-loop-child-2.result c.loop-child-2-test.true c.child-item-in-loop-child-2.is) at c.loop-child-2.invariant in
    each_behind left (c.established-in-loop-child-2.ensures.0 c.if-not-established.false)

pub established-returns-after-loop-child-2 : goal.established-returns-after-loop-child-2
established-returns-after-loop-child-2 g t c =
    let left = rw (expressions_end c.deref-child-items-in-Inter.result.now c.loop-child-2.child-index c.loop-child-2-test.false) at c.loop-child-2.invariant in
    yes (left.0 tt)

pub refuted-returns-then-not-refuted : goal.refuted-returns-then-not-refuted
refuted-returns-then-not-refuted g t c =
    let left = rw (expressions_at c.deref-child-items.result.now c.loop-child.child-index c.child-item.result c.loop-child-test.true c.child-item.is) at c.loop-child.invariant in
    no (each_here left (refused c.refuted.ensures c.if-not-refuted.true))

pub refuted-loop-child-preserved : goal.refuted-loop-child-preserved
refuted-loop-child-preserved g t c =
    let left = rw (expressions_at c.deref-child-items.result.now c.loop-child.child-index c.child-item.result c.loop-child-test.true c.child-item.is) at c.loop-child.invariant in
    each_behind left (c.refuted.ensures.0 c.if-not-refuted.false)

pub refuted-returns-after-loop-child : goal.refuted-returns-after-loop-child
refuted-returns-after-loop-child g t c =
    let left = rw (expressions_end c.deref-child-items.result.now c.loop-child.child-index c.loop-child-test.false) at c.loop-child.invariant in
    yes (left.0 tt)

pub refuted-returns-then-refuted : goal.refuted-returns-then-refuted
refuted-returns-then-refuted g t c =
    let left = rw (expressions_at c.deref-child-items-in-Inter.result.now c.loop-child-2.child-index c.child-item-in-loop-child-2.result c.loop-child-2-test.true c.child-item-in-loop-child-2.is) at c.loop-child-2.invariant in
    yes (some_here left (c.refuted-in-loop-child-2.ensures.0 c.if-refuted.true))

pub refuted-loop-child-2-preserved : goal.refuted-loop-child-2-preserved
refuted-loop-child-2-preserved g t c =
    let left = rw (expressions_at c.deref-child-items-in-Inter.result.now c.loop-child-2.child-index c.child-item-in-loop-child-2.result c.loop-child-2-test.true c.child-item-in-loop-child-2.is) at c.loop-child-2.invariant in
    some_behind left (refused c.refuted-in-loop-child-2.ensures c.if-refuted.false)

pub refuted-returns-after-loop-child-2 : goal.refuted-returns-after-loop-child-2
refuted-returns-after-loop-child-2 g t c =
    let left = rw (expressions_end c.deref-child-items-in-Inter.result.now c.loop-child-2.child-index c.loop-child-2-test.false) at c.loop-child-2.invariant in
    no left.1
