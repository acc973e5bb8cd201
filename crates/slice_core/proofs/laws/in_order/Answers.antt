use Rattle.slice_core.proofs.Steps.{in_order}
use Rattle.slice_core.proofs.laws.in_order.Goals as goal

pub returns : goal.returns
returns c = in_order
