use Rattle.std.proofs.Common.{refl}
use Rattle.devices.specs.Devices.{counted_inner}
use Rattle.new_enemy.specs.Opened.{file_of}
use Rattle.new_enemy.proofs.FileRuns.{runs_audit}
use Rattle.new_enemy.proofs.Statuses.{three_beyond_limits}
use Rattle.new_enemy.proofs.files.run_audit.Goals as goal

pub returns-clause-runs : goal.returns-clause-runs
returns-clause-runs g c =
    let answer = c.audit_sharing-answer in
    runs_audit (λ x. g.F.Read.remaining (counted_inner x)) (file_of c.args.trace)
    (record { path = c.args.trace.path; file = answer.new.trace })
    c.requires.trace _ _ (file_of c.args.evidence)
    (record { path = c.args.evidence.path; file = answer.new.evidence })
    c.requires.evidence answer.result
    c.status_with.ensures answer.ensures.audited answer.ensures.kinds answer.ensures.unread

pub returns-clause-ran : goal.returns-clause-ran
returns-clause-ran g c = (
  refl,
  refl,
  three_beyond_limits c.audit_sharing-answer.result c.status_with.result c.status_with.ensures
      c.audit_sharing-answer.ensures.limits,
)
