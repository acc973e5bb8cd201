use Rattle.std.proofs.Common.{rules, [], ◌≡◌, ◌+◌, ◌≤◌, ◌∙◌, true, Some, length, inl, inr, refl, sym, ap, subst, arith}
use Rattle.std.specs.Prelude.{slice_get}
use Rattle.std.proofs.Math.Nat.{eq-or-lt_of_le}
use Rattle.std.proofs.lemmas.List.Elements.{Contains-get_or}
use Rattle.std.proofs.lemmas.Option.{get_or_from_slice_get, slice_get-get_or, slice_get_read}
use Rattle.version_chains.specs.Commits.{changelog}
use Rattle.userset_index.specs.Building.{AreMadeOf}
use Rattle.userset_index.specs.Lives.{is_alive}
use Rattle.userset_index.specs.Objects.{IsCoveredBy}
use Rattle.userset_index.specs.declared.life.Life.{Life}
use Rattle.userset_index.proofs.ExactLemmas.{made_of_next, made_of_none}
use Rattle.userset_index.proofs.objects.thinned.Goals as goal

pub loop-life-init : goal.loop-life-init
loop-life-init c =
    let none : c.new.result.items ≡ [] = search rules in
    record { covers = search rules; cover = search rules; timely = search rules; once = λ _. rw none (made_of_none _) }

pub loop-life-preserved : goal.loop-life-preserved
loop-life-preserved c =
    let touches = changelog c.args.chains.now.commits in
    let lives = c.args.lives.now in
    let i = c.loop-life.life-index in
    let new = c.in_ok-put.ensures.new c.loop-life.invariant.cover in
    record {
      covers = λ k t one less here alive.
          elim (eq-or-lt_of_le (let near : k ≤ i = omega (arith, less) in near)) [
            | inr before ↦ c.in_ok-put.ensures.old one.touch t (c.loop-life.invariant.covers k t one before here alive)
            | inl e ↦
                let there : slice_get lives i ≡ Some one = ap (slice_get lives) (sym e) ∙ here in
                let is = get_or_from_slice_get lives i one _ there in
                subst (λ (l : Life). IsCoveredBy touches c.put.new.self.lives.items l.touch t) is
                (new t (subst (λ (l : Life). is_alive t l ≡ true) (sym is) alive))
          ];
      cover = c.in_ok-put.ensures.cover c.loop-life.invariant.cover;
      timely = λ all. c.in_ok-put.ensures.timely (c.loop-life.invariant.timely all) (all _ (Contains-get_or lives i _ c.loop-life-test.true));
      once = λ all.
          let m = c.in_ok-put.ensures.more in
          subst (AreMadeOf lives (i + 1)) (sym m.new_is)
          (made_of_next lives c.loop-life.merged.lives.items i _ m.more all (slice_get-get_or lives i _ c.loop-life-test.true) (c.loop-life.invariant.once all) m.of);
    }

pub returns-clause-exact : goal.returns-clause-exact
returns-clause-exact c exact = record { timely = c.loop-life.invariant.timely exact.timely; once = (c.loop-life.invariant.once exact.once).once }

pub returns-clause-covers : goal.returns-clause-covers
returns-clause-covers c l t there alive =
    let at = slice_get_read c.args.lives.now (length c.args.lives.now) there.0 l refl there.1 (sym there.2) in
    c.loop-life.invariant.covers there.0 t l (omega (arith, there.1, c.loop-life-test.false)) at alive
