use Rattle.findings.proofs.EvidenceParts.{bytes_of_evidence_law}
use Rattle.findings.proofs.laws.bytes_of_evidence.Goals as goal

pub returns : goal.returns
returns c = λ objects bytes part given. bytes_of_evidence_law objects c.args.trace.now c.entries_rise.ensures bytes part given
