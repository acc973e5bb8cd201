use Rattle.windows.proofs.AlikeLemmas.{same_members_law}
use Rattle.windows.proofs.laws.same_members.Goals as goal

pub returns : goal.returns
returns c = same_members_law
