use Rattle.std.proofs.Common.{sym, subst}
use Rattle.version_chains.specs.Commits.{changelog}
use Rattle.userset_index.specs.Index.{Holds}
use Rattle.userset_index.specs.declared.life.Way.TheVariants.{Object}
use Rattle.userset_index.proofs.index.Lists.of.Goals as goal

pub returns : goal.returns
returns c =
    let ds = c.args.rules.now in
    let touches = changelog c.args.chains.now.commits in
    let counts = c.args.crowds.now.counts.items in
    let given = subst (Holds ds Object touches counts) (sym c.deref.ensures.value) c.in_ok-objects.ensures.holds in
    record {
      own_held = c.in_ok-own.ensures.holds;
      own_exact = c.in_ok-own.ensures.exact;
      through_held = c.in_ok-through.ensures.holds counts given;
      through_exact = c.in_ok-through.ensures.exact;
      objects_held = c.in_ok-objects.ensures.holds;
    }
