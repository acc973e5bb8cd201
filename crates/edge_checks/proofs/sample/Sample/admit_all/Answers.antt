use Rattle.std.proofs.Common.{rules, ◌∙◌}
use Rattle.tuple_text.proofs.Borrowed.{tuple_within, tuple_there}
use Rattle.tuple_text.specs.TupleRefs.{tuple_value, tuple_values}
use Rattle.edge_checks.proofs.Sampling.{answers_both, edges_step, taken_step, unbroken_step, kept_step}
use Rattle.edge_checks.proofs.sample.Sample.admit_all.Goals as goal

pub returns-in_err-admit-clause-answer : goal.returns-in_err-admit-clause-answer
returns-in_err-admit-clause-answer c =
    let i = c.loop-tuple.tuple-index in
    let t = c.tuple-item.result in
    let within = tuple_within c.args.tuples.now i t c.loop-tuple-test.true c.tuple-item.is in
    let is = tuple_there c.args.tuples.now i t c.loop-tuple-test.true c.tuple-item.is in
    rw (c.loop-tuple.invariant.left, edges_step c.args.rules.now (tuple_values c.args.tuples.now) i (tuple_value t) within is)
    (answers_both c.in_err-admit.field-0.0 c.from_residual.result _ _ (search rules) c.in_err-admit.ensures.answer)

pub loop-tuple-preserved : goal.loop-tuple-preserved
loop-tuple-preserved c =
    let i = c.loop-tuple.tuple-index in
    let t = c.tuple-item.result in
    let ts = tuple_values c.args.tuples.now in
    let within = tuple_within c.args.tuples.now i t c.loop-tuple-test.true c.tuple-item.is in
    let is = tuple_there c.args.tuples.now i t c.loop-tuple-test.true c.tuple-item.is in
    record {
      left = c.loop-tuple.invariant.left ∙ edges_step c.args.rules.now ts i (tuple_value t) within is ∙ rw c.in_ok-admit.ensures.answer (search rules);
      unbroken = unbroken_step c.args.rules.now c.loop-tuple.self c.admit.new.self (tuple_value t) c.loop-tuple.invariant.unbroken c.in_ok-admit.ensures.answer c.in_ok-admit.ensures.taken;
      taken = taken_step c.args.rules.now ts i (tuple_value t) within is c.args.self.now c.loop-tuple.self c.admit.new.self c.loop-tuple.invariant.taken c.in_ok-admit.ensures.taken;
      index = c.in_ok-admit.ensures.index;
      kept = kept_step c.args.self.now c.loop-tuple.self c.admit.new.self c.loop-tuple.invariant.kept c.in_ok-admit.ensures.kept;
    }
