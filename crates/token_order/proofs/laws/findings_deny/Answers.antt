use Rattle.token_order.proofs.Denials.{denied}
use Rattle.token_order.proofs.laws.findings_deny.Goals as goal

pub returns : goal.returns
returns c = λ i e at. denied c.args.trace.now c.entries_rise.ensures i e at
