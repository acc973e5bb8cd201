use Rattle.std.proofs.Common.{◌≡◌, ◌++◌, drop}
use Rattle.evidence_check.specs.Evidences.{evidence_value}
use Rattle.findings.specs.Findings.{findings_from, findings_of}
use Rattle.findings.proofs.entries.findings_of.Given as goal

abbrev pub invariant-loop-i : goal.invariant-loop-i
invariant-loop-i l = l.findings.items ++ findings_from l.trace (evidence_value l.evidence) l.i (drop l.i l.trace.entries) ≡ findings_of l.trace (evidence_value l.evidence)
