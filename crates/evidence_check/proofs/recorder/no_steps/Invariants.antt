use Rattle.std.proofs.Common.{◌≡◌, None}
use Rattle.std.specs.Prelude.{replicate}
use Rattle.evidence_check.specs.Evidences.{all_shown}
use Rattle.evidence_check.proofs.recorder.no_steps.Given as goal

abbrev pub invariant-loop : goal.invariant-loop
invariant-loop l = all_shown l.steps.items ≡ replicate l.counter None
