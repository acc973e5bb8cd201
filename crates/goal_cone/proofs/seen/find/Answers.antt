use Rattle.std.proofs.Common.{◌≡◌, ◌∷◌, length, map, Some, arith, ap, ◌∙◌, refl, subst, sym, ℕ}
use Rattle.std.specs.Prelude.{slice_get}
use Rattle.std.proofs.lemmas.List.{length-map}
use Rattle.std.proofs.lemmas.Option.{slice_get-map}
use Rattle.tuple_text.specs.Order.{tuple_eq}
use Rattle.tuple_text.specs.Refs.{set_value}
use Rattle.tuple_text.specs.Tuples.{FactValue, fact_of, fact_tuple}
use Rattle.tuple_text.proofs.ValueLemmas.{fact_eq-same}
use Rattle.marks.specs.Placed.{indices_of}
use Rattle.marks.proofs.LeftLemmas.{AreLeft, left_behind, left_none, tuples_left}
use Rattle.marks.proofs.PlacedLemmas.{read_item}
use Rattle.judgement.proofs.MarkedLemmas.{other_tuple, absent_fact}
use Rattle.goal_cone.proofs.seen.find.Goals.{After-is_of_marked}
use Rattle.goal_cone.proofs.seen.find.Goals as goal

pub loop-number-init : goal.loop-number-init
loop-number-init c =
    let tuple = fact_tuple (fact_of (set_value c.args.set.set) c.args.user) in
    let marks = c.args.marks.now in
    subst (AreLeft (λ t. tuple_eq t tuple) (map fact_tuple c.args.facts.now))
    (sym (c.into_iter-number-iterator.ensures.into_iter_gives ∙ c.with-number-items.ensures ∙ ap (λ (m : ℕ). indices_of m marks (length marks)) c.fact_mark.ensures))
    (tuples_left tuple (map fact_tuple c.args.facts.now) marks c.requires)

pub bounds-facts-number : goal.bounds-facts-number
bounds-facts-number c =
    let tuple = fact_tuple (fact_of (set_value c.args.set.set) c.args.user) in
    let left = subst (AreLeft (λ t. tuple_eq t tuple) (map fact_tuple c.args.facts.now)) c.in-Some.ensures.steps c.loop-number.invariant in
    rw (length-map c.args.facts.now fact_tuple) at left.within.0

pub offset_bounds-facts-number : goal.offset_bounds-facts-number
offset_bounds-facts-number c =
    let within = bounds-facts-number c in
    omega (arith, within)

left : (c : After-is_of_marked) → AreLeft
    (λ t. tuple_eq t (fact_tuple (fact_of (set_value c.args.set.set) c.args.user))) (map fact_tuple c.args.facts.now)
    (c.in-Some.number ∷ c.next.new.self)
left c = rw c.in-Some.ensures.steps at c.loop-number.invariant

-- the fact at the first number that is left
here : (c : After-is_of_marked) → slice_get c.args.facts.now c.in-Some.number ≡ Some c.index-facts-number.result
here c =
    let facts = c.args.facts.now in
    read_item facts facts c.in-Some.number c.index-facts-number.result refl
    (rw (length-map facts fact_tuple) at (left c).within.0) c.index-facts-number.is

pub loop-number-preserved : goal.loop-number-preserved
loop-number-preserved c =
    let fact = fact_of (set_value c.args.set.set) c.args.user in
    let facts = c.args.facts.now in
    let found = c.index-facts-number.result in
    let at = (goal.at.loop-number-preserved c).After-is_of_marked in
    let there : slice_get (map fact_tuple facts) c.in-Some.number ≡ Some (fact_tuple found) = rw
    (slice_get-map fact_tuple facts c.in-Some.number, here at) refl in
    left_behind (λ t. tuple_eq t (fact_tuple fact)) (map fact_tuple facts) c.in-Some.number _ (fact_tuple found) there
    (other_tuple fact found (sym c.is_of_marked.ensures ∙ c.if-is_of_marked.false)) (left at)

pub returns-then-is_of_marked-clause-there : goal.returns-then-is_of_marked-clause-there
returns-then-is_of_marked-clause-there c =
    let fact = fact_of (set_value c.args.set.set) c.args.user in
    let same : fact ≡ c.index-facts-number.result = fact_eq-same fact c.index-facts-number.result
    (sym c.is_of_marked.ensures ∙ c.if-is_of_marked.true) in
    here (goal.at.returns-then-is_of_marked-clause-there c).After-is_of_marked ∙ ap (λ (f : FactValue). Some f)
    (sym same)

pub returns-clause-absent : goal.returns-clause-absent
returns-clause-absent c = λ _.
    let fact = fact_of (set_value c.args.set.set) c.args.user in
    let tuples = map fact_tuple c.args.facts.now in
    absent_fact c.args.facts.now fact
    (left_none (λ t. tuple_eq t (fact_tuple fact)) tuples (subst (AreLeft (λ t. tuple_eq t (fact_tuple fact)) tuples) c.in-None.ensures.steps.0 c.loop-number.invariant))
