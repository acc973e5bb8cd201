use Rattle.findings.proofs.PartLemmas.{clean_in_parts}
use Rattle.findings.proofs.laws.right_and_fresh_in_parts.Goals as goal

pub returns : goal.returns
returns c = λ part evidence clean. c.right_and_fresh_without_findings.ensures evidence (clean_in_parts part c.args.trace.now evidence clean)
