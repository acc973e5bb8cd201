use Rattle.version_chains.proofs.CallerLemmas.{some_among}
use Rattle.version_chains.proofs.among.is_some_set_among.Goals as goal

pub returns : goal.returns
returns c =
    rw (← c.of.ensures)
    (some_among c.args.these.now _ c.args.chains.now.commits c.args.at _
    c.usersets.ensures.stored _ c.is_any_among.ensures)
