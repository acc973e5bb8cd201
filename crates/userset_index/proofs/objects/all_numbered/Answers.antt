use Rattle.std.proofs.Common.{rules, [], ◌≡◌, ◌+◌, ◌≤◌, ◌∙◌, Option, None, Some, List, length, inl, inr, refl, sym, ap, subst, arith}
use Rattle.std.specs.Prelude.{slice_get, Contains, IfSome}
use Rattle.std.proofs.Math.Nat.{eq-or-lt_of_le}
use Rattle.std.proofs.lemmas.List.Elements.{Contains-get_or}
use Rattle.std.proofs.lemmas.Option.{MatchOption-at_some, get_or_from_slice_get, slice_get-get_or, slice_get_read}
use Rattle.version_chains.specs.Commits.{Touch, changelog}
use Rattle.marks.specs.Marks.{pair_mark, set_mark}
use Rattle.userset_index.specs.Building.{AreMadeOf}
use Rattle.userset_index.specs.Index.{AreTimely, IsTimely}
use Rattle.userset_index.specs.Objects.{IsNumbered, IsSameLife}
use Rattle.userset_index.specs.declared.life.Life.{Life}
use Rattle.userset_index.proofs.BuildLemmas.{kept_further, kept_here}
use Rattle.userset_index.proofs.ExactLemmas.{made_of_next, made_of_none}
use Rattle.userset_index.proofs.ObjectLemmas.{timely_kept, timely_shorter}
use Rattle.userset_index.proofs.objects.all_numbered.Goals as goal

pub loop-life-init : goal.loop-life-init
loop-life-init c = record {
  there = search rules;
  timely = search rules;
  once = λ _. let none : c.in_ok-all.all.items
      ≡ [] = search rules in rw none (made_of_none _);
}

pub loop-life-preserved : goal.loop-life-preserved
loop-life-preserved c =
    let touches = changelog c.args.chains.now.commits in
    let lives = c.args.lives.now in
    let i = c.loop-life.life-index in
    let all = c.loop-life.all.items in
    record {
      there = λ k n one x g less here touched user place.
          let made : Life = record one { mark = pair_mark (set_mark x.tuple.set) n } in
          subst (λ (ls : List Life). Contains ls made) (sym c.in_ok-keep.ensures)
          (elim (eq-or-lt_of_le (let near : k ≤ i = omega (arith, less) in near)) [
            | inr before ↦ kept_further all c.numbered.result made (c.loop-life.invariant.there k n one x g before here touched user place)
            | inl e ↦
                let there : slice_get lives i ≡ Some one = ap (slice_get lives) (sym e) ∙ here in
                let is = get_or_from_slice_get lives i one _ there in
                let of = subst (λ (l : Life). IsNumbered c.args.rules.now touches l c.numbered.result) is c.numbered.ensures.numbered in
                kept_here all c.numbered.result made (of x g n touched user place)
          ]);
      timely = λ timely. subst (AreTimely touches) (sym c.in_ok-keep.ensures)
          (timely_kept touches all c.numbered.result (c.loop-life.invariant.timely timely)
          (λ m is. timely_same touches _ m (MatchOption-at_some _ _ m is c.numbered.ensures.same) (timely _ (Contains-get_or lives i _ c.loop-life-test.true))));
      once = λ once. subst (AreMadeOf lives (i + 1)) (sym c.in_ok-keep.ensures)
          (made_of_next lives all i _ c.numbered.result once (slice_get-get_or lives i _ c.loop-life-test.true) (c.loop-life.invariant.once once)
          (of_touch _ c.numbered.result c.numbered.ensures.same));
    }
  where
    of_touch : (l : Life) (o : Option Life) → IfSome o (IsSameLife l) → IfSome o (λ m. m.touch ≡ l.touch)
    of_touch l None is = tt
    of_touch l (Some m) is = is.touch

    timely_same : (touches : List Touch) (l m : Life) → IsSameLife l m → IsTimely touches l → IsTimely touches m
    timely_same touches l m is timely =
        let from = is.from in
        let until = is.until in
        timely_shorter touches l m is.touch (omega (arith, from)) (omega (arith, until)) timely

pub returns-clause-numbered : goal.returns-clause-numbered
returns-clause-numbered c l x g n there touched user place =
    let at = slice_get_read c.args.lives.now (length c.args.lives.now) there.0 l refl there.1 (sym there.2) in
    c.loop-life.invariant.there there.0 n l x g (omega (arith, there.1, c.loop-life-test.false)) at touched user place

pub returns-clause-exact : goal.returns-clause-exact
returns-clause-exact c exact = record { timely = c.loop-life.invariant.timely exact.timely; once = (c.loop-life.invariant.once exact.once).once }
