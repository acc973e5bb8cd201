use Rattle.namespaces.specs.Lookup.{rule_at}
use Rattle.strata.proofs.Renumbered.{same_meaning_law}
use Rattle.strata.proofs.Restratified.{same_expressions_in_force}
use Rattle.strata.proofs.laws.same_meaning_at_each_time.Goals as goal

pub returns : goal.returns
returns c old new same at store a b = same_meaning_law (rule_at old at) (rule_at new at) store a b (same_expressions_in_force old new same at)
