use Rattle.trace_lines.proofs.OfBytes.{versions_of_bytes}
use Rattle.trace_lines.proofs.laws.versions_of_bytes_issued_once.Goals as goal

pub returns : goal.returns
returns c = versions_of_bytes
