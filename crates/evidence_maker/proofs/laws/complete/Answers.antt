use Rattle.evidence_maker.proofs.Saturated.{complete_law}
use Rattle.evidence_maker.proofs.laws.complete.Goals as goal

pub returns : goal.returns
returns c = λ rules own store valid C premises. complete_law rules store C own valid premises
