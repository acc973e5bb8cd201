use Rattle.findings.proofs.PartsSaid.{said_by_bytes}
use Rattle.findings.proofs.laws.said_by_lines.Goals as goal

pub returns : goal.returns
returns c = said_by_bytes
