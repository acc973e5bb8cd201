use Rattle.std.proofs.Common.{◌∙◌}
use Rattle.monitor.proofs.OpenLemmas.{open_are_counted}
use Rattle.monitor.proofs.monitor.Monitor.count_open.Goals as goal

pub returns : goal.returns
returns c = c.len-2.ensures.len ∙ open_are_counted c.args.trace.now c.args.self.now c.requires.stands c.requires.all c.len-2.ensures.ordered
