use Rattle.marks.proofs.PlacedLemmas.{read_item}
use Rattle.marks.proofs.LinkLemmas.{older_shown, none_shown}
use Rattle.marks.proofs.places.Places.older.Goals as goal

pub returns-in-Some : goal.returns-in-Some
returns-in-Some c =
    let there = read_item c.self.inside.older.items c.deref.result.now c.args.index _ c.deref.ensures.value
    c.in-Some.ensures.lookup.3.0 c.in-Some.ensures.lookup.1 in
    older_shown c.self.inside.marks.items c.self.inside.older.items c.self.inside.newest c.args.self.now c.args.index _
    c.self.invariant.0 c.self.view_is there

pub returns-in-None : goal.returns-in-None
returns-in-None c =
    none_shown c.self.inside.marks.items c.self.inside.older.items c.deref.result.now c.self.inside.newest
    c.args.self.now c.args.index c.self.invariant.0 c.self.view_is c.deref.ensures.value c.in-None.ensures.lookup.0
