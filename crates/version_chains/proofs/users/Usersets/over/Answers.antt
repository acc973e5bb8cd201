use Rattle.std.proofs.Common.{◌∙◌}
use Rattle.tuple_text.specs.declared.users.User.TheVariants.{Set}
use Rattle.version_chains.proofs.KindLemmas.{are_usersets, usersets_any, usersets_distinct}
use Rattle.version_chains.proofs.users.Usersets.over.Goals as goal

pub invariant_of-result : goal.invariant_of-result
invariant_of-result c = are_usersets _ _ c.over.ensures.stored

pub returns-clause-distinct : goal.returns-clause-distinct
returns-clause-distinct c = usersets_distinct _ c.over.ensures.distinct

pub returns-clause-stored : goal.returns-clause-stored
returns-clause-stored c g = usersets_any g c.over.result ∙ c.over.ensures.stored (Set g)
