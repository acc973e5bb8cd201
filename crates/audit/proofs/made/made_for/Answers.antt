use Rattle.evidence_check.specs.Steps.{step_values}
use Rattle.audit.proofs.MadeRecords.{made_by}
use Rattle.audit.proofs.made.made_for.Goals as goal

pub returns-in-Ok-clause-made : goal.returns-in-Ok-clause-made
returns-in-Ok-clause-made c = λ e at.
    let made = c.in-Ok.ensures.made e at in
    made_by c.args.maker.now e (step_values c.in-Ok.made.steps.items) made.settles made.fits.0 made.fits.1

pub returns-in-Ok-clause-judged : goal.returns-in-Ok-clause-judged
returns-in-Ok-clause-judged c = λ e at. (c.in-Ok.ensures.made e at).judges
