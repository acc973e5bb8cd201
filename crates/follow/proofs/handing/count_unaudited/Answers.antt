use Rattle.std.proofs.Common.{◌∙◌, ap, arith, not, sym, Bool}
use Rattle.runs.proofs.WalkLemmas.{there_is}
use Rattle.trace_lines.specs.Values.{EntryValue}
use Rattle.carry_laws.specs.Asked.{is_audited}
use Rattle.follow.proofs.CountLemmas.{counted_none, counted_one}
use Rattle.follow.proofs.handing.count_unaudited.Goals as goal
use Rattle.follow.proofs.handing.count_unaudited.Goals.{then-not-is_audited, else-not-is_audited}

pub loop-i-preserved : goal.loop-i-preserved
loop-i-preserved c =
    let es = c.args.trace.now.entries in
    let i = c.loop-i.i in
    let turn = c.loop-i-test.true in
    let all = c.len-i-end.ensures.count in
    let own = there_is es i (omega (arith, turn, all)) in
    let test : EntryValue → Bool = λ e. not (is_audited c.args.known es e) in
    elim c.if-not-is_audited.branch [
      | then-not-is_audited w ↦ record {
        counted = rw w.count-is (counted_one test es i own.0 own.1 c.loop-i.count _ c.loop-i.invariant.counted
            (ap not (sym (c.is_audited.ensures own.0 own.1) ∙ w.if-not-is_audited.true)));
        few = omega (arith, w.count-is, c.loop-i.invariant.few);
      }
      | else-not-is_audited w ↦ record {
        counted = rw w.count-is (counted_none test es i own.0 own.1 c.loop-i.count _ c.loop-i.invariant.counted
            (ap not (sym (c.is_audited.ensures own.0 own.1) ∙ w.if-not-is_audited.false)));
        few = omega (arith, w.count-is, c.loop-i.invariant.few);
      }
    ]
