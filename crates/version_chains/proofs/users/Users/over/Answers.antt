use Rattle.version_chains.proofs.KindLemmas.{both_distinct, both_stored}
use Rattle.version_chains.proofs.users.Users.over.Goals as goal

pub returns-clause-distinct : goal.returns-clause-distinct
returns-clause-distinct c = both_distinct _ _ _ c.over.ensures.stored c.over-2.ensures.stored c.over.ensures.distinct c.over-2.ensures.distinct

pub returns-clause-stored : goal.returns-clause-stored
returns-clause-stored c = both_stored _ _ _ c.over.ensures.stored c.over-2.ensures.stored
