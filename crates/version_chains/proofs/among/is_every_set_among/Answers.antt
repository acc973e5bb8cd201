use Rattle.version_chains.proofs.CallerLemmas.{every_among}
use Rattle.version_chains.proofs.among.is_every_set_among.Goals as goal

pub returns : goal.returns
returns c =
    rw (← c.of.ensures)
    (every_among c.args.these.now _ c.args.chains.now.commits c.args.at _
    c.usersets.ensures.stored _ c.are_all_among.ensures)
