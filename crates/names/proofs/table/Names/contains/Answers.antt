use Rattle.std.proofs.Common.{◌∙◌, is_some, ap}
use Rattle.names.proofs.NamesLemmas.{found_there}
use Rattle.names.proofs.table.Names.contains.Goals as goal

pub returns : goal.returns
returns g c = c.is_some.ensures ∙ ap is_some c.place.ensures.index ∙ found_there c.args.name.now c.args.self.now.entries
