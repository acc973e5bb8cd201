use Rattle.std.proofs.Common.{◌≡◌, false, nat_lt, subst, ap, sym, ◌∙◌}
use Rattle.std.specs.List.{list_any}
use Rattle.version_chains.specs.Commits.{changelog}
use Rattle.userset_index.specs.Index.{AreExact, Holds, HoldsThrough, few}
use Rattle.userset_index.specs.declared.life.Way.TheVariants.{Own, Object}
use Rattle.userset_index.proofs.BuildLemmas.{holds_none, through_none}
use Rattle.userset_index.proofs.ExactLemmas.{exact_none}
use Rattle.userset_index.proofs.index.UsersetIndex.of.Goals as goal

pub returns-clause-index : goal.returns-clause-index
returns-clause-index c =
    let touches = changelog c.args.chains.now.commits in
    let none : list_any (nat_lt few) c.in_ok-counts.counts.items ≡ false =
    ap (list_any (nat_lt few)) (sym c.deref.ensures.value) ∙ sym c.is_any_crowded.ensures ∙ c.if-is_any_crowded.false in
    λ _. record {
      own = subst (Holds c.args.rules.now Own touches c.in_ok-counts.counts.items) (sym c.new.ensures) (holds_none c.args.rules.now Own touches c.in_ok-counts.counts.items none);
      own_exact = subst (AreExact touches) (sym c.new.ensures) (exact_none touches);
      through =
          subst (HoldsThrough c.args.rules.now touches c.in_ok-counts.counts.items) (sym c.new-2.ensures)
          (through_none c.args.rules.now touches c.in_ok-counts.counts.items none);
      through_exact = subst (AreExact touches) (sym c.new-2.ensures) (exact_none touches);
      objects =
          subst (Holds c.args.rules.now Object touches c.in_ok-counts.counts.items) (sym c.new-3.ensures)
          (holds_none c.args.rules.now Object touches c.in_ok-counts.counts.items none);
      timed = c.in_ok-times.ensures;
    }
