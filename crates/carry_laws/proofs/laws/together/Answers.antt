use Rattle.carry_laws.proofs.TogetherLemmas.{own_law}
use Rattle.carry_laws.proofs.laws.together.Goals as goal

pub returns : goal.returns
returns c u good rs parts = own_law u good rs parts
