use Rattle.findings.specs.Findings.{findings_of}
use Rattle.findings.proofs.EachEntryLemmas.{right_and_fresh}
use Rattle.findings.proofs.laws.right_and_fresh_without_findings.Goals as goal

pub returns : goal.returns
returns c = λ evidence. right_and_fresh c.args.trace.now (findings_of c.args.trace.now evidence) (c.each_entry.ensures evidence)
