use Rattle.trace_lines.proofs.OfBytes.{strata_of_bytes}
use Rattle.trace_lines.proofs.laws.valid_strata_of_bytes.Goals as goal

pub returns : goal.returns
returns c = strata_of_bytes
