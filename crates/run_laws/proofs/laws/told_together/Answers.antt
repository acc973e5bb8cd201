use Rattle.run_laws.proofs.TogetherLemmas.{told_together_law}
use Rattle.run_laws.proofs.laws.told_together.Goals as goal

pub returns : goal.returns
returns c rs runs w says = told_together_law rs runs w says
