use Rattle.std.specs.Prelude.{slice_range}
use Rattle.std.proofs.Common.{◌+◌, ◌≤◌, [], IfOk, ap, arith, refl, subst, sym}
use Rattle.line_blocks.specs.Values.{AreTold}
use Rattle.line_blocks.proofs.AllTold.{next_wave, reached, refused_wave, wave_fits}
use Rattle.line_blocks.proofs.Parts.{lines_few}
use Rattle.line_blocks.proofs.putting.put_blocks.Goals as goal

pub loop-told-init : goal.loop-told-init
loop-told-init g c = (
  record {
    wave = [];
    are = subst (λ rs. AreTold (g.J.TellLine.told c.args.teller.now) rs []) (sym c.new.ensures.items) tt;
    all = refl;
    lines = refl;
  },
  c.requires.place,
  omega arith,
)

pub put_and_tell-next-requires-clause-few : goal.put_and_tell-next-requires-clause-few
put_and_tell-next-requires-clause-few g c κs within =
    let known = c.loop-told.invariant.0 in
    let few = lines_few c.requires.blocks.0 c.args.blocks.now c.requires.blocks.1 in
    (g.J.TellLine.told c.args.teller.now, known.wave, known.are, omega (arith, few, c.requires.few, wave_fits known))

pub put_pending-requires-clause-few : goal.put_pending-requires-clause-few
put_pending-requires-clause-few g c κs within =
    let known = c.loop-told.invariant.0 in
    let few = lines_few c.requires.blocks.0 c.args.blocks.now c.requires.blocks.1 in
    (g.J.TellLine.told c.args.teller.now, known.wave, known.are, omega (arith, few, c.requires.few, wave_fits known))

pub returns-in-Err-clause-put : goal.returns-in-Err-clause-put
returns-in-Err-clause-put g c =
    let known = c.loop-told.invariant.0 in
    (refused_wave known (c.put_and_tell-next.ensures.put _ known.wave known.are) c.in-Err.fault c.in-Err.is).0

pub returns-in-Err-clause-line : goal.returns-in-Err-clause-line
returns-in-Err-clause-line g c =
    let known = c.loop-told.invariant.0 in
    let there = refused_wave known (c.put_and_tell-next.ensures.put _ known.wave known.are) c.in-Err.fault c.in-Err.is in
    (omega (arith, c.loop-told.invariant.2, there.1), there.2)

pub returns-in_default-clause-line : goal.returns-in_default-clause-line
returns-in_default-clause-line g c =
    let known = c.loop-told.invariant.0 in
    let here = reached known (c.put_and_tell-next.ensures.put _ known.wave known.are) c.in-Ok.number c.in-Ok.is in
    let line = ap (λ e. e.line) c.out_of_memory.ensures in
    (omega (arith, c.loop-told.invariant.2, here.0, line), omega (arith, here.1, line))

pub loop-told-preserved : goal.loop-told-preserved
loop-told-preserved g c =
    let known = c.loop-told.invariant.0 in
    let end = c.loop-told.told + c.min.result in
    let are =
    subst (λ r. IfOk r (λ v. AreTold (g.J.TellLine.told c.args.teller.now) v.items
    (slice_range c.args.blocks.now c.loop-told.told end))) c.in-Ok-next.is c.put_and_tell-next.ensures.told in (
      next_wave known (c.put_and_tell-next.ensures.put _ known.wave known.are) c.in-Ok.number end
          c.in-Ok-next.parts.items c.in-Ok.is (omega arith) are,
      subst (λ r. IfOk r (λ n. g.P.PutTold.next c.put_and_tell-next.new.value ≤ n)) c.in-Ok.is
          c.put_and_tell-next.ensures.further,
      omega (
        arith,
        c.loop-told.invariant.2,
        (reached known (c.put_and_tell-next.ensures.put _ known.wave known.are) c.in-Ok.number c.in-Ok.is).0,
      ),
    )
