use Rattle.std.proofs.Common.{◌≡◌, ◌++◌, List, Option, drop}
use Rattle.evidence_check.specs.Judging.{AreJudged}
use Rattle.evidence_check.specs.Steps.{StepValue}
use Rattle.findings.specs.Findings.{findings_from, findings_of}
use Rattle.findings.proofs.entries.findings_judged.Given as goal

abbrev pub invariant-loop-i : goal.invariant-loop-i
invariant-loop-i l =
    (evidence : List (Option (List StepValue))) → AreJudged l.trace evidence l.judgements → l.findings.items ++ findings_from l.trace evidence l.i (drop l.i l.trace.entries) ≡ findings_of l.trace evidence
