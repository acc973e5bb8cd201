use Rattle.strata.proofs.DeclaredNames.{supported_at_each_time_law}
use Rattle.strata.proofs.LeastRound.{supported_law}
use Rattle.strata.proofs.laws.supported.Goals as goal

pub returns-clause-named : goal.returns-clause-named
returns-clause-named c = supported_law

pub returns-clause-at_each_time : goal.returns-clause-at_each_time
returns-clause-at_each_time c = supported_at_each_time_law
