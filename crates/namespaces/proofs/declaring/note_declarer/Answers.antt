use Rattle.std.proofs.Common.{◌≡◌, ◌∙◌, Some, ap, sym}
use Rattle.names.specs.Names.{place_of, with_value}
use Rattle.namespaces.proofs.Declarers.{no_place, noted_has, noted_kept, noted_only, noted_there}
use Rattle.namespaces.proofs.Indexes.{with_value-twice}
use Rattle.namespaces.proofs.declaring.note_declarer.Goals.{After-replace}
use Rattle.namespaces.proofs.declaring.note_declarer.Goals as goal

pub returns-in_default-clause-has : goal.returns-in_default-clause-has
returns-in_default-clause-has c there = absurd (no_place c.args.name.now c.args.table.now.entries (sym c.in_default.ensures.index) there)

placed : (c : After-replace) → place_of c.args.name.now c.args.table.now.entries ≡ Some c.in-Some.place
placed c = sym c.in-Some.ensures.index

replaced : (c : After-replace) → c.replace.new.self.entries ≡ with_value c.in-Some.place c.with.result c.args.table.now.entries
replaced c =
    c.replace.ensures.new ∙ ap (with_value c.in-Some.place c.with.result) c.replace-numbers.ensures.new
    ∙ with_value-twice c.in-Some.place c.none.result c.with.result c.args.table.now.entries

pub returns-clause-has : goal.returns-clause-has
returns-clause-has c there =
    let a = (goal.at.returns-clause-has c).After-replace in
    noted_has c.args.name.now c.args.number c.args.table.now.entries c.replace.new.self.entries c.in-Some.place c.replace-numbers.result c.with.result
    (placed a) c.replace-numbers.ensures.was (replaced a) c.with.ensures.has c.with.ensures.kept c.with.ensures.only

pub returns-clause-kept : goal.returns-clause-kept
returns-clause-kept c =
    let a = (goal.at.returns-clause-kept c).After-replace in
    noted_kept c.args.name.now c.args.number c.args.table.now.entries c.replace.new.self.entries c.in-Some.place c.replace-numbers.result c.with.result
    (placed a) c.replace-numbers.ensures.was (replaced a) c.with.ensures.has c.with.ensures.kept c.with.ensures.only

pub returns-clause-only : goal.returns-clause-only
returns-clause-only c =
    let a = (goal.at.returns-clause-only c).After-replace in
    noted_only c.args.name.now c.args.number c.args.table.now.entries c.replace.new.self.entries c.in-Some.place c.replace-numbers.result c.with.result
    (placed a) c.replace-numbers.ensures.was (replaced a) c.with.ensures.has c.with.ensures.kept c.with.ensures.only

pub returns-clause-there : goal.returns-clause-there
returns-clause-there c =
    let a = (goal.at.returns-clause-there c).After-replace in
    noted_there c.args.name.now c.args.number c.args.table.now.entries c.replace.new.self.entries c.in-Some.place c.replace-numbers.result c.with.result
    (placed a) c.replace-numbers.ensures.was (replaced a) c.with.ensures.has c.with.ensures.kept c.with.ensures.only
