use Rattle.token_order.proofs.Fresh.{in_order}
use Rattle.token_order.proofs.laws.fresh_without_findings.Goals as goal

pub returns : goal.returns
returns c = in_order c.args.trace.now c.unfound_is_upheld.ensures
