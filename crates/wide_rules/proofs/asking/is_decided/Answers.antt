use Rattle.std.proofs.Common.{rules, false, ◌≡◌, sym, ◌∙◌, ap}
use Rattle.std.specs.Prelude.{Contains}
use Rattle.rewrites.specs.Parts.{part_at, node_expression, nodes_shown}
use Rattle.rewrites.specs.declared.parts.Node.{the_lemmas}
use Rattle.wide_rules.specs.Asked.{does}
use Rattle.wide_rules.proofs.AskedLemmas.{joined_stops, same_beq}
use Rattle.judgement.proofs.PassLemmas.{mapped_element}
use Rattle.wide_rules.proofs.asking.is_decided.Goals as goal

pub returns-then-answer-stop : goal.returns-then-answer-stop
returns-then-answer-stop c = λ t q l agrees.
    let parts = q.parts in
    let g = c.args.is_given in
    let node = c.node-item.result in
    let items = c.deref-node-items.result.now in
    let e = node_expression parts node in
    let is : e ≡ part_at parts c.in-Part.part = rw c.in-Part.is (search (rules, the_lemmas)) in
    let there : Contains items node = (c.loop-node.node-index, c.loop-node-test.true, sym c.node-item.is) in
    let among : Contains (nodes_shown parts c.args.nodes.now.items) e = rw (← c.deref-node-items.ensures.value) (mapped_element (node_expression parts) items node there) in
    let answer : does l g e ≡ c.in-Some.answer =
    ap (does l g) is ∙ agrees (record { part = c.in-Part.part; is_cover = false; is_given = g; answer = c.in-Some.answer }) (rw c.in-Some.is at c.find.ensures) in
    joined_stops l c.args.stop g (nodes_shown parts c.args.nodes.now.items) e among (answer ∙ same_beq c.in-Some.answer c.args.stop c.if-answer-stop.true)
