use Rattle.version_chains.proofs.HistoryLemmas.{jump_is_walk_law}
use Rattle.version_chains.proofs.laws.jump_is_walk.Goals as goal

pub returns : goal.returns
returns c = jump_is_walk_law c.args.chains.now.commits (rw (← c.commits.ensures.times) c.commits.ensures.rising)
