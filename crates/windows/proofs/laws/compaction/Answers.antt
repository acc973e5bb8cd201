use Rattle.windows.proofs.CompactionLemmas.{compacted_law}
use Rattle.windows.proofs.laws.compaction.Goals as goal

pub returns : goal.returns
returns c = compacted_law
