use Rattle.std.proofs.Common.{◌≡◌, ◌-◌, ◌∙◌, ℕ, length, map, Some, sym, subst, refl, arith, nat_eq}
use Rattle.std.specs.Prelude.{slice_get}
use Rattle.std.proofs.lemmas.List.{length-map}
use Rattle.tuple_text.specs.Refs.{set_value}
use Rattle.tuple_text.specs.Tuples.{fact_of, fact_tuple}
use Rattle.marks.specs.Marks.{tuple_mark}
use Rattle.marks.specs.Placed.{last_place}
use Rattle.marks.proofs.IndexLemmas.{walked_on}
use Rattle.judgement.proofs.MarkedLemmas.{behind_left, behind_on, found_nowhere, left_next, other_left, same_left, smaller, within_kept}
use Rattle.judgement.proofs.facts.is_behind.Goals as goal

pub loop-place-init : goal.loop-place-init
loop-place-init g c =
    let fs = map g.F.KnownFact.fact c.args.facts.now in
    let fact = fact_of (set_value c.args.set.set) c.args.user in
    let marks = c.args.marks.now in
    let count : length c.args.facts.now ≡ length fs = sym (length-map c.args.facts.now g.F.KnownFact.fact) in
    let is = subst (λ (n : ℕ). (mark : ℕ) → slice_get marks n ≡ Some mark → c.older-place.result ≡ last_place (nat_eq mark) marks n) count c.older-place.ensures in
    record {
      on = behind_on fs fact marks c.older-place.result c.requires is;
      left = behind_left fs fact marks c.older-place.result c.requires is;
    }

pub offset_bounds-facts-index : goal.offset_bounds-facts-index
offset_bounds-facts-index g c =
    let fact = fact_of (set_value c.args.set.set) c.args.user in
    let left = left_next (map fact_tuple (map g.F.KnownFact.fact c.args.facts.now)) fact c.args.marks.now c.loop-place.place
    c.older-next.result c.loop-place.invariant.on c.loop-place.invariant.left c.loop-place-test.true c.older-next.ensures in
    omega (arith, within_kept g.F.KnownFact.fact c.args.facts.now (c.loop-place.place - 1) left.within.0)

pub bounds-facts-index : goal.bounds-facts-index
bounds-facts-index g c =
    let fact = fact_of (set_value c.args.set.set) c.args.user in
    let left = left_next (map fact_tuple (map g.F.KnownFact.fact c.args.facts.now)) fact c.args.marks.now c.loop-place.place
    c.older-next.result c.loop-place.invariant.on c.loop-place.invariant.left c.loop-place-test.true c.older-next.ensures in
    within_kept g.F.KnownFact.fact c.args.facts.now (c.loop-place.place - 1) left.within.0

pub loop-place-preserved : goal.loop-place-preserved
loop-place-preserved g c =
    let fact = fact_of (set_value c.args.set.set) c.args.user in
    let left = left_next (map fact_tuple (map g.F.KnownFact.fact c.args.facts.now)) fact c.args.marks.now c.loop-place.place
    c.older-next.result c.loop-place.invariant.on c.loop-place.invariant.left c.loop-place-test.true c.older-next.ensures in
    record {
      on = walked_on (tuple_mark (fact_tuple fact)) c.args.marks.now c.loop-place.place c.older-next.result c.loop-place.invariant.on c.loop-place-test.true c.older-next.ensures;
      left = other_left g.F.KnownFact.fact c.args.facts.now (c.loop-place.place - 1) fact _ c.index-facts-index.result left
          c.index-facts-index.is (sym c.is_of_marked.ensures ∙ c.if-is_of_marked.false);
    }

pub loop-place-smaller : goal.loop-place-smaller
loop-place-smaller g c =
    let fact = fact_of (set_value c.args.set.set) c.args.user in
    smaller (tuple_mark (fact_tuple fact)) c.args.marks.now c.loop-place.place c.older-next.result c.loop-place.invariant.on c.loop-place-test.true c.older-next.ensures

pub returns-then-is_of_marked : goal.returns-then-is_of_marked
returns-then-is_of_marked g c =
    let fact = fact_of (set_value c.args.set.set) c.args.user in
    let left = left_next (map fact_tuple (map g.F.KnownFact.fact c.args.facts.now)) fact c.args.marks.now c.loop-place.place
    c.older-next.result c.loop-place.invariant.on c.loop-place.invariant.left c.loop-place-test.true c.older-next.ensures in
    let there = same_left g.F.KnownFact.fact c.args.facts.now (c.loop-place.place - 1) fact _ c.index-facts-index.result left
    c.index-facts-index.is (sym c.is_of_marked.ensures ∙ c.if-is_of_marked.true) in
    (λ _. there, λ _. refl)

pub returns : goal.returns
returns g c =
    let fact = fact_of (set_value c.args.set.set) c.args.user in
    let end : c.loop-place.place ≡ 0 = omega (arith, c.loop-place-test.false) in
    found_nowhere (map g.F.KnownFact.fact c.args.facts.now) fact (rw end at c.loop-place.invariant.left)
