use Rattle.std.proofs.Common.{◌∙◌}
use Rattle.version_chains.proofs.RepeatLemmas.{searched_among}
use Rattle.version_chains.proofs.repeats.is_among.Goals as goal

pub returns : goal.returns
returns c = c.is_ok.ensures.value ∙ searched_among c.args.rising.now c.args.number c.binary_search.result c.requires c.binary_search.ensures.position
