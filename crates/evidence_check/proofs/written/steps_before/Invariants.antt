use Rattle.std.proofs.Common.{length}
use denote.Text.{Utf8}
use denote.Shadow.{shadow}
use Rattle.evidence_check.specs.Steps.{borrowed_steps}
use Rattle.evidence_check.specs.RecordPieces.{BeginsWithSteps}
use Rattle.evidence_check.proofs.written.steps_before.Given as goal

abbrev pub invariant-loop-next : goal.invariant-loop-next
invariant-loop-next l = BeginsWithSteps l.fn.text (borrowed_steps l.steps.items) l.rest × shadow (Utf8 l.rest)

abbrev pub decreases-loop-next : goal.decreases-loop-next
decreases-loop-next l = length l.rest
