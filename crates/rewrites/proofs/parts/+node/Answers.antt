use Rattle.std.proofs.Common.{rules, ◌≡◌, ◌++◌, [], map, drop, ap}
use Rattle.std.proofs.lemmas.List.{append-nil, drop_all}
use Rattle.std.proofs.lemmas.Result.{IfOk-weaker}
use Rattle.rewrites.specs.Joints.{joined, JoinAlike}
use Rattle.rewrites.specs.Parts.{parts_shown, nodes_shown, throughs_shown}
use Rattle.rewrites.specs.View.{expression_of}
use Rattle.rewrites.specs.declared.plain.Joint.{Joint}
use Rattle.rewrites.specs.declared.rewrite.Rewrite.{the_lemmas}
use Rattle.rewrites.specs.declared.parts.Node
use Rattle.rewrites.specs.declared.parts.Node.{Node}
use Rattle.rewrites.proofs.AlikeLemmas.{alike_then}
use Rattle.rewrites.proofs.PartLemmas.{grown_then, later, left_shown, union_shown, inter_shown, inter_step, union_put, union_step, says_joined, says_minus}
use Rattle.rewrites.proofs.parts.+node.Goals as goal

pub inter_of-loop-child-preserved : goal.inter_of-loop-child-preserved
inter_of-loop-child-preserved t c = (
  grown_then _ _ _ c.loop-child.invariant.0 c.in_ok-node_of.ensures.grown,
  rw c.in_ok-push.ensures.items
      (inter_step c.deref-child-items.result.now c.loop-child.child-index c.child-item.result c.loop-child-test.true
      c.child-item.is _ _ c.loop-child.nodes.items c.in_ok-node_of.field-0 c.in_ok-node_of.ensures _ c.loop-child.invariant.1),
)

pub inter_of-returns : goal.inter_of-returns
inter_of-returns t c =
    let es = c.deref-child-items.result.now in
    let none : map expression_of (drop c.loop-child.child-index es) ≡ [] = ap (map expression_of) (drop_all c.loop-child.child-index es c.loop-child-test.false) in
    record {
      grown = c.loop-child.invariant.0;
      alike = λ more. rw (← c.deref-child-items.ensures.value) (rw (none, append-nil) at (c.loop-child.invariant.1 more));
    }

pub union_of-returns : goal.union_of-returns
union_of-returns t c =
    let es = c.deref-child-items.result.now in
    let start = parts_shown c.args.numbering.now.parts.items in
    let old = parts_shown c.loop-child.numbering.parts.items in
    let new = parts_shown c.put_throughs.new.numbering.parts.items in
    let ns = c.loop-child.nodes.items in
    let ts = throughs_shown c.loop-child.throughs.each.items in
    let none : map expression_of (drop c.loop-child.child-index es) ≡ [] = ap (map expression_of) (drop_all c.loop-child.child-index es c.loop-child-test.false) in
    record {
      grown = grown_then start old new c.loop-child.invariant.0 c.in_ok-put_throughs.ensures.grown;
      alike = λ more. rw (← c.deref-child-items.ensures.value)
          (alike_then (joined Joint.Union (nodes_shown (new ++ more) c.put_throughs.new.nodes.items)) (joined Joint.Union (nodes_shown (new ++ more) ns ++ ts))
          (joined Joint.Union (map expression_of es)) (c.in_ok-put_throughs.ensures.joined more)
          (later (λ p. JoinAlike Joint.Union (nodes_shown p ns ++ ts) (map expression_of es)) old new
          (λ m. rw (none, append-nil) at (c.loop-child.invariant.1 m)) c.in_ok-put_throughs.ensures.grown more));
    }

pub node_of-returns-in_ok-union_of-in-Union : goal.node_of-returns-in_ok-union_of-in-Union
node_of-returns-in_ok-union_of-in-Union t c =
    says_joined Joint.Union _ _ _ (Node.Union c.in_ok-union_of-in-Union.field-0) _
    (map expression_of c.in-Union.children.items) (λ parts. union_shown parts c.in_ok-union_of-in-Union.field-0)
    (rw c.in-Union.is (search (rules, the_lemmas))) c.in_ok-union_of-in-Union.ensures

pub node_of-returns-in_ok-inter_of-in-Inter : goal.node_of-returns-in_ok-inter_of-in-Inter
node_of-returns-in_ok-inter_of-in-Inter t c =
    says_joined Joint.Inter _ _ _ (Node.Inter c.in_ok-inter_of-in-Inter.field-0) _
    (map expression_of c.in-Inter.children.items) (λ parts. inter_shown parts c.in_ok-inter_of-in-Inter.field-0)
    (rw c.in-Inter.is (search (rules, the_lemmas))) c.in_ok-inter_of-in-Inter.ensures

pub node_of-returns-in_ok-subtract-in-Minus : goal.node_of-returns-in_ok-subtract-in-Minus
node_of-returns-in_ok-subtract-in-Minus t c =
    IfOk-weaker c.minus_node.result _ _
    (λ n same. says_minus _ _ _ n c.in_ok-base-in-Minus.base c.in_ok-subtract-in-Minus.subtract _
    (expression_of c.deref.result.now) (expression_of c.deref-in-Minus.result.now) same
    (rw c.in-Minus.is (search (rules, the_lemmas))) c.in_ok-base-in-Minus.ensures c.in_ok-subtract-in-Minus.ensures)
    c.minus_node.ensures

pub union_of-loop-child-preserved-then-branch : goal.union_of-loop-child-preserved-then-branch
union_of-loop-child-preserved-then-branch t c =
    let es = c.deref-child-items.result.now in
    let child = c.child-item.result in
    let left = left_shown es c.loop-child.child-index child c.loop-child-test.true c.child-item.is in (
      c.loop-child.invariant.0,
      λ more. union_put (nodes_shown (parts_shown c.loop-child.numbering.parts.items ++ more) c.loop-child.nodes.items)
          (throughs_shown c.loop-child.throughs.each.items) (throughs_shown c.put_through.new.throughs.each.items) _
          (map expression_of es)
          (expression_of child) (c.in_ok-put_through.ensures.put c.if-branch.true) (rw left at (c.loop-child.invariant.1 more)),
    )

pub union_of-loop-child-preserved : goal.union_of-loop-child-preserved
union_of-loop-child-preserved t c = (
  grown_then _ _ _ c.loop-child.invariant.0 c.in_ok-node_of.ensures.grown,
  rw (c.in_ok-push.ensures.items, c.in_ok-put_through.ensures.same c.if-branch.false)
      (union_step c.deref-child-items.result.now c.loop-child.child-index c.child-item.result c.loop-child-test.true
      c.child-item.is _ _ c.loop-child.nodes.items c.in_ok-node_of.field-0 c.in_ok-node_of.ensures _
      c.loop-child.throughs.each.items c.loop-child.invariant.1),
)
