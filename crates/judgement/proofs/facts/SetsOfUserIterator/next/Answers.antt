use Rattle.std.proofs.Common.{◌≡◌, ◌∙◌, ◌-◌, ◌∷◌, suc, None, Some, ap, sym, arith, rules}
use Rattle.std.specs.Prelude.{option_map}
use Rattle.tuple_text.specs.Refs.{set_value}
use Rattle.tuple_text.specs.Sets.{SetValue}
use Rattle.tuple_text.specs.Tuples.{FactValue}
use Rattle.marks.specs.Placed.{passes}
use Rattle.marks.specs.declared.tuples.MarkedSet.{MarkedSet}
use Rattle.judgement.specs.Facts.{is_of_user, sets_before}
use Rattle.judgement.proofs.LedLemmas.{fact_at, linked_on, sets_on}
use Rattle.judgement.proofs.facts.SetsOfUserIterator.next.Goals as goal

pub returns-in_err-set-clause-steps : goal.returns-in_err-set-clause-steps
returns-in_err-set-clause-steps g c =
    let it = c.self.inside in
    let some = c.if-self-eq0.false in
    let next : it.place ≡ suc (it.place - 1) = omega (arith, some) in
    let f = fact_at it.user it.facts.now it.place c.self.invariant (it.place - 1) next in
    let bad : None ≡ Some f.0.set =
    ap (option_map (λ (s : MarkedSet). set_value s.set)) (sym c.in_err-set.was) ∙ c.set_at.ensures ∙ ap (option_map (λ (x : FactValue). x.set)) f.1 in
    absurd cc

pub invariant_of-self : goal.invariant_of-self
invariant_of-self g c =
    let it = c.self.inside in
    let some = c.if-self-eq0.false in
    let next : it.place ≡ suc (it.place - 1) = omega (arith, some) in
    let f = fact_at it.user it.facts.now it.place c.self.invariant (it.place - 1) next in
    linked_on it.user it.facts.now it.place c.self.invariant (it.place - 1) next c.older_of-self-inside.result
    (c.older_of-self-inside.ensures (ap (passes (is_of_user it.user)) f.1 ∙ f.2))

pub returns-clause-steps : goal.returns-clause-steps
returns-clause-steps g c =
    let it = c.self.inside in
    let some = c.if-self-eq0.false in
    let next : it.place ≡ suc (it.place - 1) = omega (arith, some) in
    let f = fact_at it.user it.facts.now it.place c.self.invariant (it.place - 1) next in
    let both : Some (set_value c.in_ok-set.set.set) ≡ Some f.0.set =
    ap (option_map (λ (s : MarkedSet). set_value s.set)) (sym c.in_ok-set.was) ∙ c.set_at.ensures ∙ ap (option_map (λ (x : FactValue). x.set)) f.1 in
    let same : f.0.set ≡ set_value c.in_ok-set.set.set = cc in
    sym c.self.view_is
    ∙ sets_on it.user it.facts.now it.place c.self.invariant (it.place - 1) next c.older_of-self-inside.result
    (c.older_of-self-inside.ensures (ap (passes (is_of_user it.user)) f.1 ∙ f.2))
    ∙ ap (λ (s : SetValue). s ∷ sets_before it.user it.facts.now c.older_of-self-inside.result) same

pub returns-clause-goes : goal.returns-clause-goes
returns-clause-goes g c = let steps = returns-clause-steps g c in search rules
