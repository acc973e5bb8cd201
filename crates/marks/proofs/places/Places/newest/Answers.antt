use Rattle.marks.proofs.LinkLemmas.{newest_shown}
use Rattle.marks.proofs.places.Places.newest.Goals as goal

pub returns : goal.returns
returns c =
    newest_shown c.self.inside.marks.items _ c.self.inside.older.items c.self.inside.newest _ c.args.mark _
    c.self.invariant.0 c.self.view_is c.deref.ensures.value c.newest.ensures
