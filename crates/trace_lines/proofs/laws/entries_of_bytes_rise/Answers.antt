use Rattle.trace_lines.proofs.OfBytes.{lines_of_bytes}
use Rattle.trace_lines.proofs.laws.entries_of_bytes_rise.Goals as goal

pub returns : goal.returns
returns c = lines_of_bytes
