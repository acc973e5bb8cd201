use Rattle.std.proofs.Common.{◌∙◌, sym, ap}
use Rattle.userset_index.specs.Index.{IndexValue}
use Rattle.userset_index.proofs.GrowthLemmas.{ready_still}
use Rattle.userset_index.proofs.index.UsersetIndex.renew.Goals as goal

pub returns-then-self-len : goal.returns-then-self-len
returns-then-self-len c touches begun whole =
    ready_still c.args.rules.now touches c.args.self.now (begun whole)
    (ap (λ (v : IndexValue). v.declared) (sym c.self.view_is) ∙ c.if-self-len.true ∙ c.len.ensures)
