use Rattle.std.proofs.Common.{◌≡◌, true, is_some}
use Rattle.names.specs.Names.{value_of}
use Rattle.namespaces.proofs.Declarers.{each_name}
use Rattle.namespaces.proofs.declaring.make_places.Goals as goal

pub returns-clause-there : goal.returns-clause-there
returns-clause-there c =
    each_name (λ q. is_some (value_of q c.loop-name.table.entries) ≡ true) c.args.relations.now.entries c.loop-name.name-index
    (rw c.entries-name-items.ensures at c.loop-name-test.false) (rw c.entries-name-items.ensures at c.loop-name.invariant.there)
