use Rattle.windows.proofs.CompactionLemmas.{snapshot_law}
use Rattle.windows.proofs.laws.snapshot_stands.Goals as goal

pub returns : goal.returns
returns c = snapshot_law
