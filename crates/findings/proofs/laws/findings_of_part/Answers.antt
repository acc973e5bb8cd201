use Rattle.findings.proofs.PartLemmas.{findings_of_part_law}
use Rattle.findings.proofs.laws.findings_of_part.Goals as goal

pub returns : goal.returns
returns c = findings_of_part_law
