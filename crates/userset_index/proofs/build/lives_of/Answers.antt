use Rattle.std.proofs.lemmas.Option.{slice_get_cases, slice_get_within}
use Rattle.std.proofs.Common.{◌≡◌, ℕ, ◌<◌, ◌+◌, List, Option, None, Some, length, inl, inr, subst, sym, arith, rules}
use Rattle.std.specs.Prelude.{IfSome, slice_get}
use Rattle.namespaces.specs.Declaration.{Declaration}
use Rattle.version_chains.specs.Commits.{Touch, changelog}
use Rattle.marks.proofs.PlacedLemmas.{read_item}
use Rattle.userset_index.specs.Building.{AreOfFirst, HoldsFirst, IsCrowdedLifeOf, IsWithin}
use Rattle.userset_index.specs.Index.{AreTimely}
use Rattle.userset_index.specs.declared.life.Life.{Life}
use Rattle.userset_index.specs.declared.life.Way.{Way}
use Rattle.userset_index.proofs.BuildLemmas.{holds_all, holds_next}
use Rattle.userset_index.proofs.ExactLemmas.{of_first_next, of_first_none}
use Rattle.userset_index.proofs.ObjectLemmas.{timely_kept, timely_within}
use Rattle.userset_index.proofs.build.lives_of.Goals as goal

pub loop-index-init : goal.loop-index-init
loop-index-init c = search (rules, of_first_none)

pub loop-index-preserved : goal.loop-index-preserved
loop-index-preserved c =
    let ds = c.args.rules.now in
    let touches = changelog c.args.chains.now.commits in
    let crowds = c.args.crowds.now.counts.items in
    let n = c.loop-index.index in
    let lives = c.loop-index.lives.items in
    let within = c.loop-index-test.true in
    let all = c.requires.ends.all in
    let there = touch_there touches n (omega (arith, within, all)) in
    let x = there.0 in
    let end : slice_get c.args.ends.now n ≡ Some _ = read_item c.args.ends.now c.args.ends.now n _ (λ i. c.args.ends.now) within (search rules) in
    let later = λ (j : ℕ) (y : Touch) (less : n < j) (at : slice_get touches j ≡ Some y) (same : y.tuple ≡ x.tuple).
    c.requires.ends.last n j _ x y there.1 end less (slice_get_within touches j y at) at same in
    let read : c.deref.result.now ≡ crowds = search rules in
    let is = c.life_at-life.ensures.within x there.1 in
    record {
      holds = subst (λ (ls : List Life). HoldsFirst (n + 1) ds c.args.way touches crowds ls) (sym c.in_ok-keep.ensures)
          (holds_next ds c.args.way touches crowds lives n c.life_at-life.result x _ c.loop-index.invariant.holds there.1
          (by_counts ds c.args.way c.deref.result.now crowds n x _ c.life_at-life.result read (c.life_at-life.ensures.finds x there.1)) (c.requires.ends.each n x _ there.1 end));
      timely = subst (AreTimely touches) (sym c.in_ok-keep.ensures)
          (timely_kept touches lives c.life_at-life.result c.loop-index.invariant.timely
          (λ l some. timely_within touches n _ x l there.1 (in_some n x _ c.life_at-life.result l some is) later));
      once = subst (AreOfFirst (n + 1)) (sym c.in_ok-keep.ensures)
          (of_first_next n lives c.life_at-life.result c.loop-index.invariant.once (of_touch n x _ c.life_at-life.result is));
    }
  where
    touch_there : (touches : List Touch) (n : ℕ) → n < length touches → (x : Touch) × (slice_get touches n ≡ Some x)
    touch_there touches n less = elim (slice_get_cases touches n).1 [
      | inl w ↦ (w.0, w.2)
      | inr p ↦ absurd (let past = p.0 in omega (arith, less, past))
    ]

    by_counts : (ds : List Declaration) (way : Way) (counts crowds : List ℕ) (i : ℕ) (x : Touch) (end : ℕ) (o : Option Life) → counts ≡ crowds
        → IsCrowdedLifeOf ds way counts i x end o → IsCrowdedLifeOf ds way crowds i x end o
    by_counts ds way counts crowds i x end o same is = subst (λ (cs : List ℕ). IsCrowdedLifeOf ds way cs i x end o) same is

    in_some : (i : ℕ) (x : Touch) (end : ℕ) (o : Option Life) (l : Life) → o ≡ Some l → IfSome o (IsWithin i x end) → IsWithin i x end l
    in_some i x end o l some is = subst (λ (p : Option Life). IfSome p (IsWithin i x end)) some is

    of_touch : (i : ℕ) (x : Touch) (end : ℕ) (o : Option Life) → IfSome o (IsWithin i x end) → IfSome o (λ l. l.touch ≡ i)
    of_touch i x end None is = tt
    of_touch i x end (Some l) is = is.of

pub returns-clause-holds : goal.returns-clause-holds
returns-clause-holds c =
    let all = c.requires.ends.all in
    let past = c.loop-index-test.false in
    holds_all c.args.rules.now c.args.way (changelog c.args.chains.now.commits) c.args.crowds.now.counts.items c.loop-index.lives.items c.loop-index.index
    c.loop-index.invariant.holds (omega (arith, all, past))

pub returns-clause-exact : goal.returns-clause-exact
returns-clause-exact c = record { timely = c.loop-index.invariant.timely; once = c.loop-index.invariant.once.once }
