use Rattle.findings.proofs.NewEnemyLemmas.{new_enemy}
use Rattle.findings.proofs.laws.no_new_enemy.Goals as goal

pub returns : goal.returns
returns c = λ clean. new_enemy c.args.trace.now c.versions_issued_once.ensures clean.fresh
