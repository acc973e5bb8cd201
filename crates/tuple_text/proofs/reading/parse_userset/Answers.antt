use Rattle.tuple_text.proofs.GrammarLaws.{userset_found, userset_again}
use Rattle.tuple_text.proofs.reading.parse_userset.Goals as goal

pub returns-clause-found : goal.returns-clause-found
returns-clause-found c = userset_found c.args.text.now c.set_from.result c.set_from.ensures

pub returns-clause-only : goal.returns-clause-only
returns-clause-only c = λ v fits same. rw (← userset_again v fits, ← same) c.set_from.ensures
