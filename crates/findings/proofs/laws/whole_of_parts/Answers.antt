use Rattle.findings.proofs.PartsSaid.{whole_of_parts}
use Rattle.findings.proofs.laws.whole_of_parts.Goals as goal

pub returns : goal.returns
returns c = whole_of_parts
