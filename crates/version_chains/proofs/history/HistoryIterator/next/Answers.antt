use Rattle.std.proofs.Common.{◌≡◌, ◌∙◌, ◌∷◌, ◌-◌, ◌≤◌, suc, sym, ap, subst, length, arith, rules}
use Rattle.tuple_text.specs.Order.{tuple_eq}
use Rattle.version_chains.specs.Commits.{Touch}
use Rattle.version_chains.specs.Given.{history_before}
use Rattle.marks.specs.Placed.{IsLinkedPlace}
use Rattle.version_chains.proofs.NewestLemmas.{history_on, history_gives}
use Rattle.marks.proofs.WalkLemmas.{linked_within}
use Rattle.version_chains.proofs.history.HistoryIterator.next.Goals as goal

pub returns-in_err-touch-clause-steps : goal.returns-in_err-touch-clause-steps
returns-in_err-touch-clause-steps c =
    let within = linked_within (λ (x : Touch). tuple_eq x.tuple c.self.inside.tuple.now) c.self.inside.arena.now.touches c.self.inside.place c.self.invariant in
    let past : length c.self.inside.arena.now.touches ≤ c.self.inside.place - 1 = c.in_err-touch.ensures in
    let some = c.if-self-eq0.false in
    absurd (omega (arith, within, past, some))

pub invariant_of-self : goal.invariant_of-self
invariant_of-self c =
    let some = c.if-self-eq0.false in
    let next : c.self.inside.place ≡ suc (c.self.inside.place - 1) = omega (arith, some) in
    let on = subst (IsLinkedPlace (λ (x : Touch). tuple_eq x.tuple c.self.inside.tuple.now) c.self.inside.arena.now.touches) next c.self.invariant in
    let w = c.in_ok-touch.ensures in
    history_on c.self.inside.tuple.now c.self.inside.arena.now.touches (c.self.inside.place - 1) on w.0 w.1 c.in_ok-touch.touch.now.older w.4

pub returns-clause-steps : goal.returns-clause-steps
returns-clause-steps c =
    let some = c.if-self-eq0.false in
    let next : c.self.inside.place ≡ suc (c.self.inside.place - 1) = omega (arith, some) in
    let on = subst (IsLinkedPlace (λ (x : Touch). tuple_eq x.tuple c.self.inside.tuple.now) c.self.inside.arena.now.touches) next c.self.invariant in
    let w = c.in_ok-touch.ensures in
    sym c.self.view_is
    ∙ ap (history_before c.self.inside.tuple.now c.self.inside.arena.now) next
    ∙ history_gives c.self.inside.tuple.now c.self.inside.arena.now.touches (c.self.inside.place - 1) on w.0 w.1 c.in_ok-touch.touch.now.older w.4
    ∙ (λ i. (sym w.2 i, sym w.3 i) ∷ history_before c.self.inside.tuple.now c.self.inside.arena.now c.in_ok-touch.touch.now.older)

pub returns-clause-goes : goal.returns-clause-goes
returns-clause-goes c = let steps = returns-clause-steps c in search rules
