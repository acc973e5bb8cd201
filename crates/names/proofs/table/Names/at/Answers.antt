use Rattle.std.proofs.Common.{◌≡◌, Some, slice_get}
use Rattle.names.proofs.NamesLemmas.{there_tested, value_there}
use Rattle.names.proofs.table.Names.at.Goals as goal

pub returns-clause-value : goal.returns-clause-value
returns-clause-value g c =
    let es = c.self.inside.entries.items in
    let there : slice_get es c.args.place ≡ Some c.in_ok-entry.entry.now =
    rw c.deref.ensures.value at (there_tested c.deref.result.now c.args.place c.in_ok-entry.entry.now c.in_ok-entry.ensures.lookup.0 c.in_ok-entry.ensures.lookup.1) in
    rw (← c.self.view_is) (value_there es c.args.place c.in_ok-entry.entry.now c.self.invariant.1 there)
