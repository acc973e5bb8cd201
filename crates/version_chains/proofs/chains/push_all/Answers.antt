use Rattle.std.proofs.Common.{◌∙◌, subst, sym, take, arith}
use Rattle.std.proofs.lemmas.Option.{slice_get_within}
use Rattle.version_chains.specs.Arena.{AreUpTo}
use Rattle.version_chains.proofs.CommitLemmas.{up_to_more}
use Rattle.version_chains.proofs.RepeatLemmas.{number_at, pushed_step}
use Rattle.version_chains.proofs.chains.push_all.Goals as goal

pub push-requires-clause-known : goal.push-requires-clause-known
push-requires-clause-known c =
    let w = number_at c.args.arena.now.tuples c.args.numbers.now c.requires.numbers.0 c.loop-number.number-index c.requires.numbers.1 c.loop-number-test.true in
    rw c.loop-number.invariant.tuples (slice_get_within c.args.arena.now.tuples _ w.0 w.1)

pub push-requires-clause-late : goal.push-requires-clause-late
push-requires-clause-late c =
    subst (AreUpTo c.args.at) (sym (c.loop-number.invariant.pushes c.requires.numbers.0 c.requires.numbers.1))
    (up_to_more c.args.at c.args.live c.args.arena.now.touches (take c.loop-number.number-index c.requires.numbers.0) c.requires.late)

pub loop-number-preserved : goal.loop-number-preserved
loop-number-preserved c =
    let tuples = c.loop-number.invariant.tuples in
    let so_far = c.loop-number.invariant.room in
    let step = c.push.ensures.room in
    record {
      tuples = c.push.ensures.tuples ∙ tuples;
      pushes = λ ts are.
          let w = number_at c.args.arena.now.tuples c.args.numbers.now ts c.loop-number.number-index are c.loop-number-test.true in
          c.push.ensures.pushes w.0 (rw tuples w.1)
          ∙ pushed_step c.args.at c.args.live c.args.arena.now.touches c.loop-number.arena.touches ts c.loop-number.number-index w.0 w.2 w.3 (c.loop-number.invariant.pushes ts are);
      room = omega (arith, so_far, step);
    }
