use Rattle.std.proofs.Common.{true}
use Rattle.std.proofs.lemmas.Result.{IfOk-weaker}
use Rattle.rewrites.specs.Parts.{part_at}
use Rattle.wide_rules.specs.Asked.{asked_at}
use Rattle.wide_rules.proofs.AskedLemmas.{is_other, tells_after, tells_covered}
use Rattle.wide_rules.proofs.asking.ask.Goals as goal

pub returns-then-does-is_given-clause-tells : goal.returns-then-does-is_given-clause-tells
returns-then-does-is_given-clause-tells g c =
    let q = c.args.parts.now.questions in
    let part = part_at q.parts c.args.part in
    tells_after c.args.fact.now q c.args.is_given part c.args.answers.now c.loop-k.answers c.ask_once.new.answers _
    c.loop-k.invariant.more c.loop-k.invariant.right
    (tells_covered c.args.fact.now q c.args.is_given part (asked_at q true c.in-Some.cover) c.loop-k.answers c.ask_once.new.answers c.in_ok-does.does
    (rw c.loop-k.invariant.same at c.in-Some.ensures) (rw c.loop-k.invariant.same at c.in_ok-does.ensures.tells)
    (is_other c.in_ok-does.does c.args.is_given c.if-does-is_given.true))

pub returns-clause-tells : goal.returns-clause-tells
returns-clause-tells g c =
    let q = c.args.parts.now.questions in
    IfOk-weaker c.ask_once-2.result _ _
    (λ r. tells_after c.args.fact.now q c.args.is_given (part_at q.parts c.args.part) c.args.answers.now c.loop-k.answers c.ask_once-2.new.answers r
    c.loop-k.invariant.more c.loop-k.invariant.right)
    (rw c.loop-k.invariant.same at c.ask_once-2.ensures.tells)
