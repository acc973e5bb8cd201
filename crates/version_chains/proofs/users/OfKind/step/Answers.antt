use Rattle.std.proofs.Common.{◌≡◌, ◌∙◌, ◌∷◌, ◌-◌, suc, sym, ap, subst, arith}
use Rattle.tuple_text.specs.Refs.{set_value}
use Rattle.version_chains.specs.Given.{has_mark_of, users_before}
use Rattle.marks.specs.Placed.{IsLinkedPlace}
use Rattle.version_chains.proofs.UserLemmas.{of_set, users_on, users_give, users_skip, user_at}
use Rattle.version_chains.proofs.users.OfKind.step.Goals.{After-sibling-self-inside}
use Rattle.version_chains.proofs.users.OfKind.step.Goals as goal

next : (c : After-sibling-self-inside) → c.self.inside.place ≡ suc (c.self.inside.place - 1)
next c = let some = c.if-self-eq0.false in omega (arith, some)

-- the walk stands at a tuple of the set
on : (c : After-sibling-self-inside) → let it = c.self.inside in
    IsLinkedPlace (has_mark_of (set_value it.set) it.usersets) it.arena.now.tuples (suc (it.place - 1))
on c =
    let it = c.self.inside in
    subst (IsLinkedPlace (has_mark_of (set_value it.set) it.usersets) it.arena.now.tuples)
    (next c) c.self.invariant.0

pub invariant_of-self : goal.invariant_of-self
invariant_of-self c =
    let it = c.self.inside in (
      users_on (set_value it.set) it.usersets it.at it.arena.now (it.place - 1)
          (on (goal.at.invariant_of-self c).After-sibling-self-inside)
          c.sibling-self-inside.result c.sibling-self-inside.ensures,
      λ t is. of_set (set_value it.set) it.usersets it.at it.arena.now t (c.in-Some.ensures t is).0,
    )

pub invariant_of-self-in-None : goal.invariant_of-self-in-None
invariant_of-self-in-None c =
    let it = c.self.inside in (
      users_on (set_value it.set) it.usersets it.at it.arena.now (it.place - 1)
          (on (goal.at.invariant_of-self-in-None c).After-sibling-self-inside)
          c.sibling-self-inside.result c.sibling-self-inside.ensures,
      c.self.invariant.1,
    )

pub returns-in-Some-clause-some : goal.returns-in-Some-clause-some
returns-in-Some-clause-some c =
    let it = c.self.inside in
    let at = (goal.at.returns-in-Some-clause-some c).After-sibling-self-inside in
    let t = user_at (set_value it.set) it.usersets it.at it.arena.now (it.place - 1) (on at) in
    let given = c.in-Some.ensures t.0 t.1 in
    sym c.self.view_is
    ∙ ap (users_before (set_value it.set) it.usersets it.at it.arena.now) (next at)
    ∙ users_give (set_value it.set) it.usersets it.at it.arena.now (it.place - 1)
    (on at) c.sibling-self-inside.result c.sibling-self-inside.ensures t.0 t.1 given.0
    ∙ (λ i. sym given.1 i ∷ users_before (set_value it.set) it.usersets it.at it.arena.now c.sibling-self-inside.result)

pub returns-in-None-clause-some : goal.returns-in-None-clause-some
returns-in-None-clause-some c =
    let it = c.self.inside in
    let at = (goal.at.returns-in-None-clause-some c).After-sibling-self-inside in
    let t = user_at (set_value it.set) it.usersets it.at it.arena.now (it.place - 1) (on at) in
    sym c.self.view_is
    ∙ ap (users_before (set_value it.set) it.usersets it.at it.arena.now) (next at)
    ∙ users_skip (set_value it.set) it.usersets it.at it.arena.now (it.place - 1)
    (on at) c.sibling-self-inside.result c.sibling-self-inside.ensures t.0 t.1 (c.in-None.ensures t.0 t.1)
