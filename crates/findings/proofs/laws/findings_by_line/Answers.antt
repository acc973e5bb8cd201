use Rattle.findings.proofs.FindingsByLine.{findings_by_line}
use Rattle.findings.proofs.laws.findings_by_line.Goals as goal

pub returns : goal.returns
returns c = λ objects evidence. findings_by_line objects c.args.trace.now c.entries_rise.ensures evidence
