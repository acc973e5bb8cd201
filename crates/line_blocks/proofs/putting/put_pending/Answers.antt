use Rattle.std.proofs.Common.{subst, sym}
use Rattle.line_blocks.specs.Values.{AreNumbered}
use Rattle.line_blocks.proofs.putting.put_pending.Goals as goal

pub put_each-requires-clause-few : goal.put_each-requires-clause-few
put_each-requires-clause-few g c κs within =
    subst (λ v. AreNumbered c.args.pending.now.number v.items) (sym c.replace-parts.ensures.value) c.requires.few
