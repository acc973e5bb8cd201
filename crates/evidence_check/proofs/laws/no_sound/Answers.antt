use Rattle.evidence_check.specs.Accepted.{nothing_known, after_steps}
use Rattle.evidence_check.proofs.Sound.{no_law, steps_true}
use Rattle.evidence_check.proofs.laws.no_sound.Goals as goal

pub returns : goal.returns
returns c = λ lookup store valid before good.
    let stable = c.stable.ensures lookup store valid in
    let closed = c.closed.ensures lookup store valid in
    no_law lookup store valid stable closed (after_steps nothing_known before) (steps_true lookup store valid stable closed before good)
