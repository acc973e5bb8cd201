use Rattle.std.proofs.Common.{◌≡◌, ◌∙◌, Result, Some, ap, sym, subst}
use Rattle.follow.specs.Carried.{answered}
use Rattle.follow.specs.declared.carried.RunFault.{RunFault}
use Rattle.follow.specs.declared.handing.RunEnd.{RunEnd}
use Rattle.new_enemy.specs.Carrying.{IsHandedOn}
use Rattle.devices.specs.Devices.{counted_inner}
use Rattle.new_enemy.specs.Opened.{file_of}
use Rattle.new_enemy.proofs.CarryRuns.{runs_first}
use Rattle.new_enemy.proofs.carrying.run_first.Goals as goal
use Rattle.new_enemy.proofs.carrying.run_first.Goals.{in-Ok, in-Err}

pub returns-clause-runs : goal.returns-clause-runs
returns-clause-runs g c =
    let run = c.follow_first in
    let done = c.finish_run-status in
    let same : c.match-follow_first.answer ≡ answered run.result =
    elim c.match-follow_first.branch [
      | in-Ok w ↦ w.answer-is ∙ sym (ap answered w.in-Ok.is)
      | in-Err w ↦ w.answer-is ∙ sym (ap answered w.in-Err.is)
    ] in
    runs_first (λ x. g.P.File.Read.remaining (counted_inner x)) (file_of c.args.trace) (record { path = c.args.trace.path; file = run.new.trace }) c.requires _
    done.result.0 done.result.1 (Some c.args.carrying.path.now) run.result run.ensures.run run.ensures.kinds
    (subst (λ (a : Result RunEnd RunFault). IsHandedOn (Some c.args.carrying.path.now) a done.result.0 done.result.1) same
    done.ensures)
