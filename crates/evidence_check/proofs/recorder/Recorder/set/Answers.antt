use Rattle.std.proofs.Common.{◌∙◌, Some}
use Rattle.evidence_check.proofs.Shown.{set_records}
use Rattle.evidence_check.proofs.recorder.Recorder.set.Goals as goal
use Rattle.evidence_check.proofs.recorder.Recorder.set.Goals.{in-Some-1, in-None-1}

pub returns-then-place-len : goal.returns-then-place-len
returns-then-place-len c =
    let put = set_records c.args.self.now c.self.inside.lines c.self.inside.steps.items c.args.place (Some c.args.steps) c.self.view_is in
    elim c.match-index_mut.branch [
      | in-Some-1 w ↦ w.self-is ∙ put
      | in-None-1 w ↦ w.self-is ∙ put
    ]
