use Rattle.std.proofs.Common.{rules, ◌≡◌, ◌<◌, ◌∙◌, ◌∷◌, ◌+◌, ℕ, List, length, slice_index_or, drop, add-one, refl}
use mathlib.Core.Bool.{beq}
use Rattle.std.proofs.Math.Seq.{drop-cons}
use Rattle.std.proofs.lemmas.Bool.{not-false}
use Rattle.std.proofs.lemmas.Result.{IfOk-weaker}
use Rattle.rewrites.specs.Expression.{Expression, minus}
use Rattle.rewrites.specs.Parts.{node_expression, nodes_shown}
use Rattle.rewrites.specs.declared.parts.Node.{Node, the_lemmas}
use Rattle.wide_rules.specs.Asked.{joined_of}
use Rattle.wide_rules.proofs.AskedLemmas.{same_beq, other_beq, left_step, left_stops, tells_as, tells_minus}
use Rattle.wide_rules.proofs.asking.+node.Goals as goal

pub node_does-returns-else-does-is_given-clause-tells : goal.node_does-returns-else-does-is_given-clause-tells
node_does-returns-else-does-is_given-clause-tells g t c =
    let q = c.args.parts.now.questions in
    let base = node_expression q.parts c.deref.result.now in
    let subtract = node_expression q.parts c.deref-in-Minus.result.now in
    let is : node_expression q.parts c.args.node.now ≡ minus base subtract = rw c.in-Minus.is (search (rules, the_lemmas)) in
    IfOk-weaker c.node_does-in-Minus.result _ _
    (λ r second. tells_as c.args.fact.now q c.args.is_given (node_expression q.parts c.args.node.now) (minus base subtract) c.args.answers.now
    c.node_does-in-Minus.new.answers r is
    (tells_minus c.args.fact.now q c.args.is_given base subtract c.args.answers.now c.node_does.new.answers c.node_does-in-Minus.new.answers
    c.in_ok-does-in-Minus.does r c.in_ok-does-in-Minus.ensures.tells
    (same_beq c.in_ok-does-in-Minus.does c.args.is_given (not-false (beq c.in_ok-does-in-Minus.does c.args.is_given) c.if-does-is_given.false)) second))
    (rw c.node_does.ensures.same at c.node_does-in-Minus.ensures.tells)

-- the first of the nodes that are left, and those behind it
first_left : (parts : List Expression) (nodes : List Node) (k : ℕ) (node : Node) → k < length nodes → node ≡ slice_index_or nodes k node
    → nodes_shown parts (drop k nodes) ≡ node_expression parts node ∷ nodes_shown parts (drop (k + 1) nodes)
first_left parts nodes k node within is = rw (drop-cons nodes k node within, add-one, ← is) refl

pub nodes_do-returns-then-does-stop-clause-tells : goal.nodes_do-returns-then-does-stop-clause-tells
nodes_do-returns-then-does-stop-clause-tells g t c =
    let parts = c.args.parts.now.questions.parts in
    let nodes = c.deref-node-items.result.now in
    let left = first_left parts nodes c.loop-node.node-index c.node-item.result c.loop-node-test.true c.node-item.is in
    rw (← c.deref-node-items.ensures.value)
    (left_stops c.args.fact.now c.args.parts.now.questions c.args.stop c.args.is_given (joined_of c.args.stop c.args.is_given (nodes_shown parts nodes))
    (node_expression parts c.node-item.result) (nodes_shown parts (drop (c.loop-node.node-index + 1) nodes)) c.args.answers.now c.loop-node.answers
    c.node_does.new.answers c.in_ok-does.does (rw left at c.loop-node.invariant.left) (rw c.loop-node.invariant.same at c.in_ok-does.ensures.tells)
    (same_beq c.in_ok-does.does c.args.stop c.if-does-stop.true))

pub nodes_do-loop-node-preserved : goal.nodes_do-loop-node-preserved
nodes_do-loop-node-preserved g t c =
    let parts = c.args.parts.now.questions.parts in
    let nodes = c.deref-node-items.result.now in
    let left = first_left parts nodes c.loop-node.node-index c.node-item.result c.loop-node-test.true c.node-item.is in
    record {
      same = c.in_ok-does.ensures.same ∙ c.loop-node.invariant.same;
      left = left_step c.args.fact.now c.args.parts.now.questions c.args.stop c.args.is_given (joined_of c.args.stop c.args.is_given (nodes_shown parts nodes))
          (node_expression parts c.node-item.result) (nodes_shown parts (drop (c.loop-node.node-index + 1) nodes)) c.args.answers.now c.loop-node.answers
          c.node_does.new.answers c.in_ok-does.does (rw left at c.loop-node.invariant.left) (rw c.loop-node.invariant.same at c.in_ok-does.ensures.tells)
          (other_beq c.in_ok-does.does c.args.stop c.if-does-stop.false);
    }
