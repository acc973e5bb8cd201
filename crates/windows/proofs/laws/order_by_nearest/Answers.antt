use Rattle.windows.proofs.NearestLemmas.{order_law}
use Rattle.windows.proofs.laws.order_by_nearest.Goals as goal

pub returns : goal.returns
returns c = order_law
