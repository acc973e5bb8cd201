use Rattle.monitor.proofs.GrowthLemmas.{stands_on}
use Rattle.monitor.proofs.laws.stands_on.Goals as goal

pub returns : goal.returns
returns c = λ k t u goes old new. stands_on t u goes old new
