use Rattle.strata.proofs.Renumbered.{same_meaning_law}
use Rattle.strata.proofs.laws.same_meaning.Goals as goal

pub returns : goal.returns
returns c = same_meaning_law
