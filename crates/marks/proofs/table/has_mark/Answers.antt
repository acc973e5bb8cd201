use Rattle.std.proofs.Common.{◌-◌, refl}
use Rattle.marks.proofs.PlacedLemmas.{read_item}
use Rattle.marks.proofs.LinkLemmas.{mark_there, no_mark}
use Rattle.marks.proofs.table.has_mark.Goals as goal

pub returns-in-Some : goal.returns-in-Some
returns-in-Some c =
    mark_there c.args.marks.now c.args.place c.args.mark _ c.if-place-eq0.false
    (read_item c.args.marks.now c.args.marks.now (c.args.place - 1) _ refl c.in-Some.ensures.lookup.3.0
    c.in-Some.ensures.lookup.1)

pub returns-in-None : goal.returns-in-None
returns-in-None c = no_mark c.args.marks.now c.args.place c.args.mark c.if-place-eq0.false c.in-None.ensures.lookup.0
