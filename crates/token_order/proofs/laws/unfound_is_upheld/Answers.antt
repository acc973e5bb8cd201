use Rattle.token_order.proofs.Upholding.{upheld}
use Rattle.token_order.proofs.laws.unfound_is_upheld.Goals as goal

pub returns : goal.returns
returns c = λ i e at. upheld c.args.trace.now c.entries_rise.ensures c.versions_issued_once.ensures i e at
