use Rattle.std.proofs.Common.{◌∙◌, ap, sym}
use Rattle.version_chains.specs.Commits.{changelog}
use Rattle.userset_index.specs.Index.{IndexValue}
use Rattle.userset_index.proofs.index.UsersetIndex.grow.Goals as goal

pub grow_further-requires : goal.grow_further-requires
grow_further-requires c = c.renew.ensures (changelog c.args.chains.now.commits) c.requires
    (ap (λ (v : IndexValue). v.is_growing) (sym c.self.view_is) ∙ c.in-true.is)
