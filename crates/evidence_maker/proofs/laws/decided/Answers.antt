use Rattle.evidence_maker.proofs.Settling.{settling}
use Rattle.evidence_maker.proofs.laws.decided.Goals as goal

pub returns : goal.returns
returns c = settling
