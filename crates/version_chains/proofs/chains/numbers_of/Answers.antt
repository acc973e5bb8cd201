use Rattle.std.proofs.Common.{[], refl}
use Rattle.tuple_text.specs.TupleRefs.{tuple_values}
use Rattle.version_chains.proofs.chains.numbers_of.Goals as goal

pub returns-clause-numbers : goal.returns-clause-numbers
returns-clause-numbers c = c.in_ok-number_all-2.ensures.numbers (tuple_values c.args.adds.now) (c.in_ok-number_all.ensures.numbers [] (rw c.in_ok-numbers.ensures.items refl))
