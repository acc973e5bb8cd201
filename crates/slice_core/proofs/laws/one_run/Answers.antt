use Rattle.slice_core.proofs.RunSteps.{one_run}
use Rattle.slice_core.proofs.laws.one_run.Goals as goal

pub returns : goal.returns
returns c = one_run
