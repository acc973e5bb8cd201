use Rattle.std.proofs.Common.{ℕ, List, suc, refl, subst, arith}
use Rattle.std.proofs.lemmas.Option.{get_or_from_slice_get}
use Rattle.std.specs.Prelude.{Contains}
use Rattle.rewrites.specs.Parts.{computed_names}
use Rattle.judgement.specs.Passes.{AreThroughOut}
use Rattle.judgement.specs.AskedFact.{asked_set}
use Rattle.judgement.proofs.IndexLemmas.{barred_by_through}
use Rattle.judgement.proofs.PassLemmas.{next_element, place_of_element}
use Rattle.wide_rules.proofs.crowded.are_barred_by_index.Goals as goal

pub loop-number-preserved : goal.loop-number-preserved
loop-number-preserved g c =
    let s = c.args.fact.now.snapshot.now in
    let Out : ℕ → Type 0 = λ n. (name : List ℕ) → Contains (computed_names c.args.through.now) name
    → AreThroughOut s c.args.index.now.through c.args.fact.now.known.now (asked_set c.args.fact.now) name c.args.fact.now.user n in
    next_element Out c.args.numbers.now c.loop-number.number-index c.loop-number.invariant
    (λ n here. subst Out (get_or_from_slice_get c.args.numbers.now c.loop-number.number-index n 0 here) (c.if-not-is_namespace_out.ensures.out refl))

pub returns : goal.returns
returns g c =
    let s = c.args.fact.now.snapshot.now in
    let set = asked_set c.args.fact.now in
    let live = c.requires.numbers in
    let v = c.args.index.now in (
      λ t name named.
          barred_by_through s c.fits.ensures v c.requires.crowd.whole set
          c.requires.crowd.crowded c.args.fact.now.known.now c.args.fact.now.user live.few name
          (λ n h less stored place declared.
          let there = live.all (suc n) h name stored place named declared in
          let p = place_of_element c.args.numbers.now (suc n) there in
          c.loop-number.invariant p.0 (suc n) (omega (arith, p.1, c.loop-number-test.false)) p.2 name named),
      λ b. refl,
    )
