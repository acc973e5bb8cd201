use Rattle.std.proofs.Common.{◌∙◌, sym}
use Rattle.namespaces.proofs.Tables.{name_found}
use Rattle.namespaces.proofs.reading.is_declared.Goals as goal

pub returns : goal.returns
returns c = c.contains.ensures ∙ sym (name_found c.args.relation.now c.args.relations.now.entries)
