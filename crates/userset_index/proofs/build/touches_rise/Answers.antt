use Rattle.userset_index.proofs.RisingLemmas.{rising}
use Rattle.userset_index.proofs.build.touches_rise.Goals as goal

pub returns : goal.returns
returns c = rising c.args.chains.now.commits c.commits.result.now c.commits.ensures.times c.commits.ensures.rising c.commits.ensures.apart
