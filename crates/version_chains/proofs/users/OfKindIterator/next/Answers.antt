use Rattle.std.proofs.Common.{◌≡◌, ◌∙◌, ◌∷◌, ◌-◌, suc, sym, ap, subst, arith, rules}
use Rattle.tuple_text.specs.Refs.{set_value}
use Rattle.version_chains.specs.Given.{has_mark_of, users_before}
use Rattle.marks.specs.Placed.{IsLinkedPlace}
use Rattle.version_chains.proofs.UserLemmas.{of_set, users_on, users_give, users_skip, users_smaller, user_at}
use Rattle.version_chains.proofs.users.OfKindIterator.next.Goals.{After-sibling-self-inside}
use Rattle.version_chains.proofs.users.OfKindIterator.next.Goals as goal

next : (c : After-sibling-self-inside) → c.loop-self.self-inside.place ≡ suc (c.loop-self.self-inside.place - 1)
next c = let some = c.loop-self-test.true in omega (arith, some)

-- the walk stands at a tuple of the set
on : (c : After-sibling-self-inside) → let it = c.loop-self.self-inside in
    IsLinkedPlace (has_mark_of (set_value it.set) it.usersets) it.arena.now.tuples (suc (it.place - 1))
on c =
    let it = c.loop-self.self-inside in
    subst (IsLinkedPlace (has_mark_of (set_value it.set) it.usersets) it.arena.now.tuples)
    (next c) c.loop-self.invariant.on

pub invariant_of-self-in-Some : goal.invariant_of-self-in-Some
invariant_of-self-in-Some c =
    let it = c.loop-self.self-inside in (
      users_on (set_value it.set) it.usersets it.at it.arena.now (it.place - 1)
          (on (goal.at.invariant_of-self-in-Some c).After-sibling-self-inside)
          c.sibling-self-inside.result c.sibling-self-inside.ensures,
      λ t is. of_set (set_value it.set) it.usersets it.at it.arena.now t (c.in-Some.ensures t is).0,
    )

pub returns-in-Some-clause-steps : goal.returns-in-Some-clause-steps
returns-in-Some-clause-steps c =
    let it = c.loop-self.self-inside in
    let at = (goal.at.returns-in-Some-clause-steps c).After-sibling-self-inside in
    let t = user_at (set_value it.set) it.usersets it.at it.arena.now (it.place - 1) (on at) in
    let given = c.in-Some.ensures t.0 t.1 in
    sym c.loop-self.invariant.left
    ∙ ap (users_before (set_value it.set) it.usersets it.at it.arena.now) (next at)
    ∙ users_give (set_value it.set) it.usersets it.at it.arena.now (it.place - 1)
    (on at) c.sibling-self-inside.result c.sibling-self-inside.ensures t.0 t.1 given.0
    ∙ (λ i. sym given.1 i ∷ users_before (set_value it.set) it.usersets it.at it.arena.now c.sibling-self-inside.result)

pub returns-in-Some-clause-goes : goal.returns-in-Some-clause-goes
returns-in-Some-clause-goes c = let steps = returns-in-Some-clause-steps c in search rules

pub loop-self-smaller : goal.loop-self-smaller
loop-self-smaller c =
    let it = c.loop-self.self-inside in
    let at = (goal.at.loop-self-smaller c).After-sibling-self-inside in
    users_smaller (set_value it.set) it.usersets it.at it.arena.now (it.place - 1)
    (on at) c.sibling-self-inside.result c.sibling-self-inside.ensures it.place (next at)

pub loop-self-preserved : goal.loop-self-preserved
loop-self-preserved c =
    let it = c.loop-self.self-inside in
    let at = (goal.at.loop-self-preserved c).After-sibling-self-inside in
    let t = user_at (set_value it.set) it.usersets it.at it.arena.now (it.place - 1) (on at) in
    record {
      on = users_on (set_value it.set) it.usersets it.at it.arena.now (it.place - 1)
          (on at) c.sibling-self-inside.result c.sibling-self-inside.ensures;
      like = c.loop-self.invariant.like;
      left =
          sym (users_skip (set_value it.set) it.usersets it.at it.arena.now (it.place - 1)
          (on at) c.sibling-self-inside.result c.sibling-self-inside.ensures t.0 t.1 (c.in-None.ensures t.0 t.1))
          ∙ ap (users_before (set_value it.set) it.usersets it.at it.arena.now) (sym (next at))
          ∙ c.loop-self.invariant.left;
    }
