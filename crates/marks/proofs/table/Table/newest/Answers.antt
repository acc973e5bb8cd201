use Rattle.std.proofs.Common.{rules, ◌≡◌, ◌∙◌, ◌<◌, ◌-◌, ap}
use Rattle.marks.specs.Links.{longest, place_in}
use Rattle.marks.proofs.TableLemmas.{place_at_end}
use Rattle.marks.proofs.table.Table.newest.Goals as goal

pub place_at-requires : goal.place_at-requires
place_at-requires c = c.requires.free (c.probe-end.result - 1)

pub returns-then-end-gt0 : goal.returns-then-end-gt0
returns-then-end-gt0 c =
    let some : 0 < c.probe-end.result = search rules in
    c.place_at.ensures ∙ place_at_end longest c.args.marks.now c.args.self.now.slots c.args.self.now.rest c.args.mark c.probe-end.result c.probe-end.ensures some

pub returns : goal.returns
returns c =
    let none : 0 ≡ c.probe-end.result = search rules in
    let rest : c.unwrap_or.result ≡ place_in c.args.self.now.slots c.args.self.now.rest c.args.mark 0 = search rules in
    rest ∙ ap (place_in c.args.self.now.slots c.args.self.now.rest c.args.mark) (none ∙ c.probe-end.ensures)
