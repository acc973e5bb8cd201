use Rattle.std.proofs.Common.{rules, ◌≡◌, ◌+◌, [], Err, drop, refl, add-one}
use Rattle.std.proofs.Math.Seq.{drop-cons}
use Rattle.std.proofs.lemmas.List.{drop_all}
use Rattle.rewrites.specs.Expression.{Expressions, child, children}
use Rattle.rewrites.specs.Parts.{part_expression}
use Rattle.goal_cone.specs.Leaves.{read_shown}
use Rattle.goal_cone.proofs.PassLemmas.{over_done, over_start, over_step, over_stopped}
use Rattle.goal_cone.proofs.premises.see_parts.Goals.{After-see_part}
use Rattle.goal_cone.proofs.premises.see_parts.Goals as goal

pub loop-part-init : goal.loop-part-init
loop-part-init c =
    over_start 131072 4194304 c.args.fact.now (children (read_shown c.args.parts.now)) c.args.seen.now c.args.room.now

-- the parts behind the one at hand
abbrev rest : After-see_part → Expressions
rest c = children (read_shown (drop (c.loop-part.part-index + 1) c.args.parts.now))

step : (c : After-see_part) → children (read_shown (drop c.loop-part.part-index c.args.parts.now)) ≡ child
    (part_expression c.part-item.result.part) (rest c)
step c = rw c.part-item.is (rw (
  drop-cons c.args.parts.now c.loop-part.part-index c.part-item.result
      c.loop-part-test.true,
  add-one,
) refl)

pub loop-part-preserved : goal.loop-part-preserved
loop-part-preserved c =
    let at = (goal.at.loop-part-preserved c).After-see_part in
    over_step 131072 4194304 c.args.fact.now (children (read_shown c.args.parts.now)) c.args.seen.now c.args.room.now
    (part_expression c.part-item.result.part) (rest at) c.loop-part.seen c.loop-part.room
    (rw (step at) at c.loop-part.invariant)
    c.see_part.new.seen c.see_part.new.room c.in_ok-see_part.ensures

pub returns-in_err-see_part : goal.returns-in_err-see_part
returns-in_err-see_part c =
    let at = (goal.at.returns-in_err-see_part c).After-see_part in
    let same : c.from_residual.result ≡ Err c.in_err-see_part.field-0.0 = search rules in
    rw same (over_stopped 131072 4194304 c.args.fact.now
    (children (read_shown c.args.parts.now)) c.args.seen.now c.args.room.now
    (part_expression c.part-item.result.part) (rest at) c.loop-part.seen c.loop-part.room
    (rw (step at) at c.loop-part.invariant)
    _ c.see_part.new.seen _ c.see_part.new.room _ c.in_err-see_part.ensures)

pub returns : goal.returns
returns c =
    let none : drop c.loop-part.part-index c.args.parts.now ≡ [] = drop_all c.loop-part.part-index c.args.parts.now
    c.loop-part-test.false in
    over_done 131072 4194304 c.args.fact.now (children (read_shown c.args.parts.now)) c.args.seen.now c.args.room.now
    c.loop-part.seen c.loop-part.room (rw none at c.loop-part.invariant)
