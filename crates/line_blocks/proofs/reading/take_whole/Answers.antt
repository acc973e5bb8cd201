use Rattle.std.proofs.Common.{rules}
use Rattle.line_blocks.specs.Parts.{taken_by}
use Rattle.line_blocks.specs.Values.{IsCut}
use Rattle.line_blocks.proofs.Places.{leads, no_memory_first, stops}
use Rattle.line_blocks.proofs.reading.take_whole.Goals as goal

pub returns-in_default-clause-takes : goal.returns-in_default-clause-takes
returns-in_default-clause-takes g c =
    rw c.out_of_memory.ensures (no_memory_first (taken_by (g.J.TellLine.told c.args.teller.now) g.P.PutTold.put)
    c.args.place c.args.value.now c.args.lines.now)

pub returns-in-Ok-put_blocks-clause-takes : goal.returns-in-Ok-put_blocks-clause-takes
returns-in-Ok-put_blocks-clause-takes g c =
    let cut : IsCut c.args.place.room c.args.lines.now c.deref.result.now = rw c.deref.ensures.value c.in-Ok.ensures in
    leads (g.J.TellLine.told c.args.teller.now) g.P.PutTold.put c.args.place c.args.value.now c.args.lines.now
    c.deref.result.now cut c.put_blocks.new.value
    (record { number = c.in-Ok-put_blocks.number; room = c.saturating_sub.result }) c.in-Ok-put_blocks.ensures.put
    c.in-Ok-put_blocks.ensures.next (search rules)

pub returns-clause-takes : goal.returns-clause-takes
returns-clause-takes g c =
    let cut : IsCut c.args.place.room c.args.lines.now c.deref.result.now = rw c.deref.ensures.value c.in-Ok.ensures in
    stops (g.J.TellLine.told c.args.teller.now) g.P.PutTold.put c.args.place c.args.value.now c.args.lines.now
    c.deref.result.now cut c.put_blocks.new.value c.in-Err.fault c.in-Err.ensures.put c.in-Err.ensures.line
