use Rattle.windows.proofs.MergedLemmas.{merged_law}
use Rattle.windows.proofs.laws.merged_by_line.Goals as goal

pub returns : goal.returns
returns c = λ part evidence. merged_law c.args.trace.now c.entries_rise.ensures evidence part
