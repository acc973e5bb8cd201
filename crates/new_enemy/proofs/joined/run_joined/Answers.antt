use Rattle.new_enemy.proofs.JoinedRuns.{runs_joined}
use Rattle.new_enemy.proofs.joined.run_joined.Goals as goal

pub returns : goal.returns
returns g c =
    let answer = c.audit_joined-answer in
    runs_joined _ _ c.status_with.result answer.result c.status_with.ensures answer.ensures
