use Rattle.trace_lines.proofs.ToldTuples.{form_more, told_more}
use Rattle.std.proofs.Common.{refl}
use Rattle.trace_lines.proofs.owned.push_tuples.Goals as goal

pub loop-tuple-preserved : goal.loop-tuple-preserved
loop-tuple-preserved c =
    let r = c.tuple-item.result in
    record {
      tuples = told_more c.args.tuples.now c.loop-tuple.tuples c.push.new.self c.args.more.now c.loop-tuple.tuple-index r _ c.loop-tuple-test.true c.tuple-item.is refl c.in_ok-push.ensures.ok
          c.loop-tuple.invariant.tuples;
      in_form = form_more c.args.tuples.now c.loop-tuple.tuples c.push.new.self c.args.more.now c.loop-tuple.tuple-index r _ c.loop-tuple-test.true c.tuple-item.is refl c.in_ok-push.ensures.ok
          c.loop-tuple.invariant.in_form (record { head = r.is_head; user = c.user.ensures.form });
    }
