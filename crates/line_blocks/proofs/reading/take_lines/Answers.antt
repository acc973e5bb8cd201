use Rattle.std.proofs.Common.{sym, take, drop}
use Rattle.std.proofs.lemmas.List.{take-append-drop}
use Rattle.line_blocks.specs.Parts.{taken_by}
use Rattle.line_blocks.proofs.Places.{no_memory_behind, stops_within}
use Rattle.line_blocks.proofs.reading.take_lines.Goals as goal

pub returns-in-Err-clause-takes : goal.returns-in-Err-clause-takes
returns-in-Err-clause-takes g c =
    let count = c.whole_len-count.result in
    stops_within (taken_by (g.J.TellLine.told c.args.teller.now) g.P.PutTold.put) c.args.place c.args.value.now
    c.args.bytes.now.items (take count c.args.bytes.now.items) (drop count c.args.bytes.now.items) c.in-Err.fault
    (sym (take-append-drop count c.args.bytes.now.items)) (rw c.deref-2.ensures.value at c.in-Err.ensures.takes)

pub returns-in-Err-drop_front-clause-takes : goal.returns-in-Err-drop_front-clause-takes
returns-in-Err-drop_front-clause-takes g c =
    let count = c.whole_len-count.result in
    rw c.out_of_memory.ensures
    (no_memory_behind (taken_by (g.J.TellLine.told c.args.teller.now) g.P.PutTold.put) c.args.place c.args.value.now
    c.args.bytes.now.items (take count c.args.bytes.now.items) (drop count c.args.bytes.now.items)
    c.in-Ok.behind c.take_whole.new.value (sym (take-append-drop count c.args.bytes.now.items))
    (rw c.deref-2.ensures.value at c.in-Ok.ensures.takes))
