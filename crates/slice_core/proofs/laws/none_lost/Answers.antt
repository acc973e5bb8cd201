use Rattle.slice_core.proofs.Steps.{each_once}
use Rattle.slice_core.proofs.laws.none_lost.Goals as goal

pub returns : goal.returns
returns c = each_once
