use Rattle.evidence_maker.proofs.LeftOver.{left_over_law}
use Rattle.evidence_maker.proofs.laws.left_over.Goals as goal

pub returns : goal.returns
returns c = λ rules own store known R left. left_over_law rules store known R own left
