use Rattle.std.proofs.Common.{◌≡◌, ◌∙◌, ℕ, length, map, ap, sym, subst, refl}
use Rattle.tuple_text.specs.Order.{tuple_eq}
use Rattle.tuple_text.specs.Refs.{set_value}
use Rattle.tuple_text.specs.Tuples.{fact_of, fact_tuple}
use Rattle.marks.specs.Marks.{tuple_mark}
use Rattle.marks.specs.Placed.{indices_of}
use Rattle.marks.proofs.LeftLemmas.{AreLeft, tuples_left}
use Rattle.judgement.proofs.MarkedLemmas.{found_nowhere, other_left, same_left, within_kept}
use Rattle.judgement.proofs.facts.is_found.Goals as goal

pub loop-index-init : goal.loop-index-init
loop-index-init g c =
    let tuple = fact_tuple (fact_of (set_value c.args.set.set) c.args.user) in
    let tuples = map fact_tuple (map g.F.KnownFact.fact c.args.facts.now) in
    let all : c.into_iter-index-iterator.result ≡ indices_of (tuple_mark tuple) c.args.marks.now (length c.args.marks.now) =
    c.into_iter-index-iterator.ensures.into_iter_gives ∙ c.with-index-items.ensures
    ∙ ap (λ (m : ℕ). indices_of m c.args.marks.now (length c.args.marks.now)) c.requires.mark in
    subst (AreLeft (λ t. tuple_eq t tuple) tuples) (sym all) (tuples_left tuple tuples c.args.marks.now c.requires.marks)

pub bounds-facts-index : goal.bounds-facts-index
bounds-facts-index g c =
    let left = rw c.in-Some.ensures.steps at c.loop-index.invariant in
    within_kept g.F.KnownFact.fact c.args.facts.now c.in-Some.index left.within.0

pub loop-index-preserved : goal.loop-index-preserved
loop-index-preserved g c =
    other_left g.F.KnownFact.fact c.args.facts.now c.in-Some.index
    (fact_of (set_value c.args.set.set) c.args.user) c.next.new.self
    c.index-facts-index.result (rw c.in-Some.ensures.steps at c.loop-index.invariant) c.index-facts-index.is
    (sym c.is_of_marked.ensures ∙ c.if-is_of_marked.false)

pub returns-then-is_of_marked : goal.returns-then-is_of_marked
returns-then-is_of_marked g c =
    let there = same_left g.F.KnownFact.fact c.args.facts.now c.in-Some.index
    (fact_of (set_value c.args.set.set) c.args.user) c.next.new.self
    c.index-facts-index.result (rw c.in-Some.ensures.steps at c.loop-index.invariant) c.index-facts-index.is
    (sym c.is_of_marked.ensures ∙ c.if-is_of_marked.true) in
    (λ _. there, λ _. refl)

pub returns : goal.returns
returns g c =
    found_nowhere (map g.F.KnownFact.fact c.args.facts.now) (fact_of (set_value c.args.set.set) c.args.user)
    (rw c.in-None.ensures.steps.0 at c.loop-index.invariant)
