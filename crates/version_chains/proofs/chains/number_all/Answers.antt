use Rattle.std.proofs.Common.{◌≡◌, ◌∙◌, ◌++◌, ◌∷◌, [], rules}
use Rattle.tuple_text.proofs.Borrowed.{tuple_within, tuple_there}
use Rattle.tuple_text.specs.TupleRefs.{tuple_value, tuple_values}
use Rattle.version_chains.proofs.RepeatLemmas.{numbers_step}
use Rattle.version_chains.proofs.chains.number_all.Goals as goal

pub loop-tuple-preserved : goal.loop-tuple-preserved
loop-tuple-preserved c =
    let i = c.loop-tuple.tuple-index in
    let within = tuple_within c.args.tuples.now i c.tuple-item.result c.loop-tuple-test.true c.tuple-item.is in
    let is = tuple_there c.args.tuples.now i c.tuple-item.result c.loop-tuple-test.true c.tuple-item.is in
    record {
      numbers = λ ts are.
          let items : c.push.new.self.items ≡ c.loop-tuple.numbers.items ++ c.in_ok-number.number ∷ [] = search rules in
          rw items
          (numbers_step c.loop-tuple.arena.tuples c.number.new.self.tuples c.loop-tuple.numbers.items ts (tuple_values c.args.tuples.now) i c.in_ok-number.number
          (tuple_value c.tuple-item.result) within is (c.loop-tuple.invariant.numbers ts are) c.number.ensures.extends c.in_ok-number.ensures.ok);
      touches = c.number.ensures.touches ∙ c.loop-tuple.invariant.touches;
    }
