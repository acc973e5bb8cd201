use Rattle.std.proofs.Common.{refl}
use Rattle.devices.specs.Devices.{counted_inner}
use Rattle.new_enemy.specs.Opened.{file_of}
use Rattle.new_enemy.proofs.CarryRuns.{handed_to, runs_behind}
use Rattle.new_enemy.proofs.carrying.run_behind.Goals as goal

pub returns-clause-runs : goal.returns-clause-runs
returns-clause-runs g c =
    let answer = c.follow_behind-answer in
    let done = c.finish_run-status in
    runs_behind (λ x. g.P.File.Read.remaining (counted_inner x)) (file_of c.args.trace) (record { path = c.args.trace.path; file = answer.new.trace }) c.requires.trace _
    done.result.0 done.result.1 _ (file_of c.args.from) (record { path = c.args.from.path; file = answer.new.carry })
    c.requires.from answer.result answer.ensures done.ensures

pub returns-clause-ran : goal.returns-clause-ran
returns-clause-ran g c =
    let done = c.finish_run-status in
    (refl, refl, handed_to _ c.follow_behind-answer.result done.result.0 done.result.1 done.ensures)
