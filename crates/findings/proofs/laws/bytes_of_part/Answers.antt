use Rattle.findings.proofs.PartReads.{bytes_of_part_law}
use Rattle.findings.proofs.laws.bytes_of_part.Goals as goal

pub returns : goal.returns
returns c = bytes_of_part_law
