use Rattle.std.proofs.Common.{◌≡◌, List, subst, rules}
use Rattle.std.specs.Prelude.{IsPermutation}
use Rattle.std.proofs.lemmas.Result.{IfOk-weaker}
use Rattle.version_chains.specs.Commits.{changelog}
use Rattle.userset_index.specs.Index.{AreExact}
use Rattle.userset_index.specs.Objects.{AreNumbered}
use Rattle.userset_index.specs.declared.life.Life.{Life}
use Rattle.userset_index.specs.declared.life.Way.TheVariants.{Object}
use Rattle.userset_index.proofs.BuildLemmas.{holds_permuted}
use Rattle.userset_index.proofs.ExactLemmas.{exact_permuted}
use Rattle.userset_index.proofs.ObjectLemmas.{through_by_objects}
use Rattle.userset_index.proofs.objects.lives_through.Goals as goal

pub returns-clause-holds : goal.returns-clause-holds
returns-clause-holds c = λ crowds of_objects.
    let ds = c.args.rules.now in
    let touches = changelog c.args.chains.now.commits in
    let moved : IsPermutation c.args.objects.now c.deref.result.now = search rules in
    let read : c.deref-2.result.now ≡ c.in_ok-kept.kept.items = search rules in
    let holds = holds_permuted ds Object touches crowds _ _ moved of_objects in
    let exact = c.in_ok-kept.ensures.exact (exact_permuted touches _ _ moved c.requires) in
    IfOk-weaker c.all_numbered.result _ _
    (λ numbered all. through_by_objects ds touches crowds _ _ numbered.items holds c.in_ok-kept.ensures.covers
    exact.timely (subst (λ (ls : List Life). AreNumbered ds touches ls numbered.items) read all))
    c.all_numbered.ensures.numbered

pub returns-clause-exact : goal.returns-clause-exact
returns-clause-exact c =
    let touches = changelog c.args.chains.now.commits in
    let moved : IsPermutation c.args.objects.now c.deref.result.now = search rules in
    let read : c.deref-2.result.now ≡ c.in_ok-kept.kept.items = search rules in
    let exact = c.in_ok-kept.ensures.exact (exact_permuted touches _ _ moved c.requires) in
    IfOk-weaker c.all_numbered.result _ _
    (λ numbered all. subst (λ (ls : List Life). AreExact touches ls → AreExact touches numbered.items) read all exact)
    c.all_numbered.ensures.exact
