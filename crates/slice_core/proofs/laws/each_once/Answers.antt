use Rattle.slice_core.proofs.MachineLemmas.{start_once}
use Rattle.slice_core.proofs.laws.each_once.Goals as goal

pub returns : goal.returns
returns c = start_once
