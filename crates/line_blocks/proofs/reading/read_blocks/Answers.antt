use Rattle.std.proofs.Common.{Ok, Err, ap, arith}
use Rattle.line_blocks.specs.Parts.{taken_by}
use Rattle.line_blocks.proofs.Exits.{goes_on, last_read, none_came, stopped_at, too_long}
use Rattle.line_blocks.proofs.reading.read_blocks.Goals as goal

pub returns-in-Ok-2 : goal.returns-in-Ok-2
returns-in-Ok-2 g c =
    let lines = c.in-Ok-take_lines.ensures.takes in
    rw c.too_long.ensures
    (too_long g.R.Source.given g.R.Source.ends g.R.Source.failures g.R.Read.remaining
    (taken_by (g.J.TellLine.told c.args.teller.now) g.P.PutTold.put) c.args.reader.now c.args.value.now
    c.loop-turn.reader c.loop-turn.value c.loop-turn.place c.loop-turn.bytes.items
    c.loop-turn._turn c.loop-turn.invariant.0 c.refill.new.reader c.in-Ok-true.ensures.most c.in-Ok-true.ensures.known
    c.refill.new.bytes.items c.in-Ok-true.ensures.came (c.in-Ok-true.ensures.kept (λ e. cc)) lines.0
    c.take_lines.new.bytes.items c.in-Ok-take_lines.behind c.take_lines.new.value lines.1 lines.3
    c.take_lines.new.value lines.2
    (omega (arith, c.if-len-min.false, c.len.ensures, c.min.ensures, c.take_lines.new.bytes.ok.0)))

pub returns-in-Err-take_lines : goal.returns-in-Err-take_lines
returns-in-Err-take_lines g c =
    stopped_at g.R.Source.given g.R.Source.ends g.R.Source.failures g.R.Read.remaining
    (taken_by (g.J.TellLine.told c.args.teller.now) g.P.PutTold.put) c.args.reader.now c.args.value.now
    c.loop-turn.reader c.loop-turn.value c.loop-turn.place c.loop-turn.bytes.items
    c.loop-turn._turn c.loop-turn.invariant.0 c.refill.new.reader c.in-Ok-true.ensures.most c.in-Ok-true.ensures.known
    c.refill.new.bytes.items c.in-Ok-true.ensures.came (c.in-Ok-true.ensures.kept (λ e. cc)) c.take_lines.new.value
    c.in-Err-take_lines.fault c.in-Err-take_lines.ensures.takes

pub returns-in-Ok-false : goal.returns-in-Ok-false
returns-in-Ok-false g c =
    last_read g.R.Source.given g.R.Source.ends g.R.Source.failures g.R.Read.remaining
    (taken_by (g.J.TellLine.told c.args.teller.now) g.P.PutTold.put) c.args.reader.now c.args.value.now
    c.loop-turn.reader c.loop-turn.value c.loop-turn.place c.loop-turn.bytes.items
    c.loop-turn._turn c.loop-turn.invariant.0 c.refill.new.reader c.in-Ok-false.ensures.most c.in-Ok-false.ensures.known
    c.refill.new.bytes.items c.in-Ok-false.ensures.came (c.in-Ok-false.ensures.kept (λ e. cc))
    (c.in-Ok-false.ensures.none (ap Ok c.in-Ok-false.field-0-test))
    (rw c.in-Ok-false.field-0-test at c.in-Ok-false.ensures.ends) c.take_last.new.value c.take_last.result
    (rw (← (c.in-Ok-false.ensures.none (ap Ok c.in-Ok-false.field-0-test)), ← c.deref.ensures.value)
    c.take_last.ensures.ok) (rw (
      ← (c.in-Ok-false.ensures.none (ap Ok c.in-Ok-false.field-0-test)),
      ← c.deref.ensures.value,
    ) c.take_last.ensures.refused)

pub returns-in-Err : goal.returns-in-Err
returns-in-Err g c =
    none_came g.R.Source.given g.R.Source.ends g.R.Source.failures g.R.Read.remaining
    (taken_by (g.J.TellLine.told c.args.teller.now) g.P.PutTold.put) c.args.reader.now c.args.value.now
    c.loop-turn.reader c.loop-turn.value c.loop-turn.place c.loop-turn.bytes.items
    c.loop-turn._turn c.loop-turn.invariant.0 c.refill.new.reader c.in-Err.ensures.most c.in-Err.ensures.known
    c.loop-turn.value c.in-Err.fault (λ e. c.in-Err.ensures.causes (ap Err e)) (λ e. c.in-Err.ensures.cut (ap Err e))
    (λ e. c.in-Err.ensures.failed (ap Err e)) (λ e. c.in-Err.ensures.kept (λ same. e (cc (same))))

pub loop-turn-preserved : goal.loop-turn-preserved
loop-turn-preserved g c =
    let lines = c.in-Ok-take_lines.ensures.takes in (
      goes_on g.R.Source.given g.R.Source.ends g.R.Source.failures g.R.Read.remaining
          (taken_by (g.J.TellLine.told c.args.teller.now) g.P.PutTold.put) c.args.reader.now c.args.value.now
          c.loop-turn.reader c.loop-turn.value c.loop-turn.place c.loop-turn.bytes.items
          c.loop-turn._turn c.loop-turn.invariant.0 c.refill.new.reader c.in-Ok-true.ensures.most c.in-Ok-true.ensures.known
          c.refill.new.bytes.items c.in-Ok-true.ensures.came (c.in-Ok-true.ensures.kept (λ e. cc)) lines.0
          c.take_lines.new.bytes.items c.in-Ok-take_lines.behind c.take_lines.new.value lines.1 lines.3
          lines.2
          (omega (arith, c.if-len-min.true, c.len.ensures, c.min.ensures, c.take_lines.new.bytes.ok.0))
          (omega (
            arith,
            c.in-Ok-true.ensures.some (ap Ok c.in-Ok-true.field-0-test),
            c.loop-turn.bytes.ok.0,
            c.refill.new.bytes.ok.0,
          )) (omega (arith, rw c.in-Ok-true.field-0-test at c.in-Ok-true.ensures.ends)),
      c.in-Ok-take_lines.ensures.further,
    )
