use Rattle.std.proofs.Common.{rules}
use Rattle.std.specs.Prelude.{IsPermutation}
use Rattle.std.proofs.lemmas.Result.{IfOk-weaker}
use Rattle.version_chains.specs.Commits.{changelog}
use Rattle.userset_index.specs.Moments.{HoldsStays}
use Rattle.userset_index.proofs.MomentLemmas.{moments_by_stays, stays_permuted}
use Rattle.userset_index.proofs.moments.all_moments.Goals as goal

pub returns : goal.returns
returns c =
    let ds = c.args.rules.now in
    let touches = changelog c.args.chains.now.commits in
    let holds : HoldsStays ds touches c.in_ok-stays.stays.items = search rules in
    let moved : IsPermutation c.in_ok-stays.stays.items c.deref.result.now = search rules in
    IfOk-weaker c.moments_of.result _ _
    (λ m. moments_by_stays ds touches c.deref.result.now m.lives.items m.numbers.items (stays_permuted ds touches c.in_ok-stays.stays.items c.deref.result.now moved holds))
    c.moments_of.ensures
