use Rattle.std.proofs.Common.{refl}
use Rattle.devices.specs.Devices.{counted_inner}
use Rattle.new_enemy.specs.Opened.{file_of}
use Rattle.new_enemy.proofs.FileRuns.{runs_follow}
use Rattle.new_enemy.proofs.files.run_follow.Goals as goal

pub returns-clause-runs : goal.returns-clause-runs
returns-clause-runs g c =
    let answer = c.follow-answer in
    runs_follow (λ x. g.F.Read.remaining (counted_inner x)) (file_of c.args.trace)
    (record { path = c.args.trace.path; file = answer.new.trace })
    c.requires _ _
    answer.result c.status_with.ensures answer.ensures.followed answer.ensures.kinds

pub returns-clause-ran : goal.returns-clause-ran
returns-clause-ran g c = refl
