use Rattle.std.proofs.Common.{◌+◌, ◌≤◌, None, Some, List, refl, subst, sym, arith}
use Rattle.version_chains.specs.Commits.{changelog}
use Rattle.userset_index.specs.Index.{AreTimely}
use Rattle.userset_index.specs.Objects.{IsCoveredBy}
use Rattle.userset_index.specs.declared.life.Life.{Life}
use Rattle.userset_index.proofs.ObjectLemmas.{cover_by_rest, covered_by_rest, covered_inside, timely_more, timely_shorter, alive_until}
use Rattle.userset_index.proofs.objects.Merged.put.Goals as goal

pub returns-then-not-reaches-clause-timely : goal.returns-then-not-reaches-clause-timely
returns-then-not-reaches-clause-timely c all one =
    let touches = changelog c.args.chains.now.commits in
    subst (AreTimely touches) (sym c.in_ok-push.ensures.items) (timely_more touches c.args.self.now.lives.items c.args.life all one)

pub returns-in_ok-push-2-clause-new : goal.returns-in_ok-push-2-clause-new
returns-in_ok-push-2-clause-new c covered t alive =
    let touches = changelog c.args.chains.now.commits in
    subst (λ (lives : List Life). IsCoveredBy touches lives c.args.life.touch t) (sym c.in_ok-push-2.ensures.items)
    (covered_by_rest touches c.args.self.now.lives.items c.args.self.now.cover c.args.life (c.reaches.ensures.object c.if-not-reaches.false) (c.reaches.ensures.since c.if-not-reaches.false) covered
    t alive)

pub returns-in_ok-push-2-clause-cover : goal.returns-in_ok-push-2-clause-cover
returns-in_ok-push-2-clause-cover c covered t alive =
    let touches = changelog c.args.chains.now.commits in
    subst (λ (lives : List Life). IsCoveredBy touches lives c.args.self.now.cover.touch t) (sym c.in_ok-push-2.ensures.items)
    (cover_by_rest touches c.args.self.now.lives.items c.args.self.now.cover c.args.life (c.reaches.ensures.object c.if-not-reaches.false) (c.reaches.ensures.since c.if-not-reaches.false) covered
    t alive)

pub returns-in_ok-push-2-clause-timely : goal.returns-in_ok-push-2-clause-timely
returns-in_ok-push-2-clause-timely c all one =
    let touches = changelog c.args.chains.now.commits in
    let cover = c.args.self.now.cover in
    let life = c.args.life in
    let reached : life.from ≤ cover.until = alive_until cover life.from (c.reaches.ensures.since c.if-not-reaches.false) in
    let rest : Life = record life { from = cover.until + 1 } in
    subst (AreTimely touches) (sym c.in_ok-push-2.ensures.items)
    (timely_more touches c.args.self.now.lives.items rest all (timely_shorter touches life rest refl (omega (arith, reached)) (omega arith) one))

pub returns-else-self-life-clause-new : goal.returns-else-self-life-clause-new
returns-else-self-life-clause-new c covered t alive =
    let inside = alive_until c.args.life t alive in
    let until = c.if-self-life.false in
    covered_inside (changelog c.args.chains.now.commits) c.args.self.now.lives.items c.args.self.now.cover c.args.life (c.reaches.ensures.object c.if-not-reaches.false)
    (c.reaches.ensures.since c.if-not-reaches.false) covered t alive (omega (arith, inside, until))

pub returns-then-not-reaches-clause-more : goal.returns-then-not-reaches-clause-more
returns-then-not-reaches-clause-more c = record { more = Some c.args.life; new_is = c.in_ok-push.ensures.items; of = refl }

pub returns-in_ok-push-2-clause-more : goal.returns-in_ok-push-2-clause-more
returns-in_ok-push-2-clause-more c = record { more = Some (record c.args.life { from = c.args.self.now.cover.until + 1 }); new_is = c.in_ok-push-2.ensures.items; of = refl }

pub returns-else-self-life-clause-more : goal.returns-else-self-life-clause-more
returns-else-self-life-clause-more c = record { more = None; new_is = refl; of = tt }
