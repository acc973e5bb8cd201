use Rattle.std.proofs.Common.{refl}
use Rattle.devices.specs.Devices.{counted_inner}
use Rattle.new_enemy.specs.Opened.{file_of}
use Rattle.new_enemy.proofs.FileRuns.{runs_audit_made}
use Rattle.new_enemy.proofs.Statuses.{three_beyond_limits}
use Rattle.new_enemy.proofs.files.run_audit_made.Goals as goal

pub returns-clause-runs : goal.returns-clause-runs
returns-clause-runs g c =
    let answer = c.audit_made-answer in
    runs_audit_made (λ x. g.F.Read.remaining (counted_inner x)) (file_of c.args.trace)
    (record { path = c.args.trace.path; file = answer.new.trace })
    c.requires _ _
    answer.result c.status_with.ensures answer.ensures.made answer.ensures.kinds (λ is. (answer.ensures.unread is).0)

pub returns-clause-ran : goal.returns-clause-ran
returns-clause-ran g c = (
  refl,
  three_beyond_limits c.audit_made-answer.result c.status_with.result c.status_with.ensures
      c.audit_made-answer.ensures.limits,
)
