use Rattle.tuple_text.specs.TupleRefs.{tuple_value}
use Rattle.tuple_text.proofs.GrammarLaws.{tuple_found, tuple_again}
use Rattle.tuple_text.proofs.reading.read_tuple.Goals as goal

pub returns-clause-found : goal.returns-clause-found
returns-clause-found c = tuple_found tuple_value c.args.text.now c.tuple_from.result c.tuple_from.ensures

pub returns-clause-only : goal.returns-clause-only
returns-clause-only c = λ v fits same. rw (← tuple_again v fits, ← same) c.tuple_from.ensures
