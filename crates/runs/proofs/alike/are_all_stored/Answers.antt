use Rattle.std.proofs.Common.{sym}
use Rattle.runs.proofs.TouchLemmas.{all_touched}
use Rattle.runs.proofs.alike.are_all_stored.Goals as goal

pub returns-in_default : goal.returns-in_default
returns-in_default c yes' t stored =
    all_touched c.args.log.now.commits c.args.other.now.commits c.args.at c.loop-i.i (sym c.in_default.ensures.value)
    c.loop-i.invariant t stored
