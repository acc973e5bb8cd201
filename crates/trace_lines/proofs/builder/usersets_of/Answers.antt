use Rattle.userset_index.proofs.CallerLemmas.{none_kept}
use Rattle.trace_lines.proofs.builder.usersets_of.Goals as goal

pub returns-in-Err-clause-index : goal.returns-in-Err-clause-index
returns-in-Err-clause-index c = none_kept c.args.rules.now c.args.chains.now.commits c.new.result c.new.ensures.whole
