use Rattle.tuple_text.specs.FactRefs.{fact_value}
use Rattle.tuple_text.proofs.GrammarLaws.{fact_found, fact_again}
use Rattle.tuple_text.proofs.reading.read_fact.Goals as goal

pub returns-clause-found : goal.returns-clause-found
returns-clause-found c = fact_found fact_value c.args.text.now c.fact_from.result c.fact_from.ensures

pub returns-clause-only : goal.returns-clause-only
returns-clause-only c = λ v fits same. rw (← fact_again v fits, ← same) c.fact_from.ensures
