use Rattle.std.proofs.Common.{◌∙◌, rules}
use Rattle.edge_checks.proofs.Sampling.{edges_step, unbroken_at}
use Rattle.edge_checks.proofs.sample.check_all.Goals as goal

pub returns-in_err-check_tuple_by : goal.returns-in_err-check_tuple_by
returns-in_err-check_tuple_by c =
    let was = unbroken_at c.requires.before c.args.tuples.now c.loop-tuple.tuple-index c.tuple-item.result c.loop-tuple-test.true c.tuple-item.is c.requires.unbroken in
    rw (
      c.loop-tuple.invariant,
      edges_step c.args.rules.now c.args.tuples.now c.loop-tuple.tuple-index c.tuple-item.result c.loop-tuple-test.true c.tuple-item.is,
      ← c.in_err-check_tuple_by.ensures c.requires.before c.requires.again was,
    ) (search rules)

pub loop-tuple-preserved : goal.loop-tuple-preserved
loop-tuple-preserved c =
    let was = unbroken_at c.requires.before c.args.tuples.now c.loop-tuple.tuple-index c.tuple-item.result c.loop-tuple-test.true c.tuple-item.is c.requires.unbroken in
    c.loop-tuple.invariant
    ∙ edges_step c.args.rules.now c.args.tuples.now c.loop-tuple.tuple-index c.tuple-item.result c.loop-tuple-test.true c.tuple-item.is
    ∙ rw (← c.in_ok-check_tuple_by.ensures c.requires.before c.requires.again was) (search rules)
