use Rattle.namespaces.proofs.NumberSets.{none_has}
use Rattle.namespaces.proofs.number_set.Numbers.none.Goals as goal

pub returns : goal.returns
returns c n = none_has n
