use Rattle.trace_lines.proofs.OfBytes.{commits_placed}
use Rattle.trace_lines.proofs.laws.commits_of_bytes.Goals as goal

pub returns : goal.returns
returns c = commits_placed
