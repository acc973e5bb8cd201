use Rattle.std.proofs.Common.{◌∙◌}
use Rattle.userset_index.proofs.GrowthLemmas.{ready_none}
use Rattle.userset_index.proofs.index.UsersetIndex.begun.Goals as goal

pub returns : goal.returns
returns c touches =
    let none = c.new-5.ensures in
    ready_none c.args.rules.now touches _ c.new.ensures none.0 c.new-2.ensures none.1 c.new-3.ensures none.2 (none.3 ∙ c.len.ensures)
    c.new-4.ensures
