use Rattle.std.proofs.Common.{◌≡◌, ◌∙◌, ◌-◌, suc, ℕ, Option, sym, ap, subst, arith, rules}
use Rattle.userset_index.specs.Lives.{touches_alive}
use Rattle.userset_index.specs.Spans.{Steps, found_first}
use Rattle.userset_index.proofs.spans.AliveIterator.next.Goals.{After-step-step}
use Rattle.userset_index.proofs.spans.AliveIterator.next.Goals as goal

next : (c : After-step-step) → c.loop-self.self-inside.place ≡ suc (c.loop-self.self-inside.place - 1)
next c = let some = c.loop-self-test.true in omega (arith, some)

-- the step from where the walk stands
step : (c : After-step-step) → let it = c.loop-self.self-inside in Steps it.mark it.at it.spans.now
    (it.place - 1) c.step-step.result
step c =
    let it = c.loop-self.self-inside in
    let here = c.loop-self.invariant.of (it.place - 1) (next c) in
    subst (λ (m : ℕ). Steps m it.at it.spans.now (it.place - 1) c.step-step.result) here.2
    (c.step-step.ensures here.0 here.1)

-- what is left to give is what the step found, and what is left from where it leads
left : (c : After-step-step) → let it = c.loop-self.self-inside in
    found_first c.step-step.result.found (touches_alive it.mark it.at it.spans.now c.step-step.result.place)
    ≡ touches_alive it.mark it.at it.spans.now it.place
left c = let it = c.loop-self.self-inside in sym
    (ap (touches_alive it.mark it.at it.spans.now) (next c) ∙ (step c).same)

pub invariant_of-self-in-Some : goal.invariant_of-self-in-Some
invariant_of-self-in-Some c = (step (goal.at.invariant_of-self-in-Some c).After-step-step).of

pub returns-in-Some-clause-steps : goal.returns-in-Some-clause-steps
returns-in-Some-clause-steps c =
    let it = c.loop-self.self-inside in
    sym (left (goal.at.returns-in-Some-clause-steps c).After-step-step ∙ c.loop-self.invariant.left)
    ∙ ap (λ (o : Option ℕ). found_first o (touches_alive it.mark it.at it.spans.now c.step-step.result.place)) c.in-Some.is

pub returns-in-Some-clause-goes : goal.returns-in-Some-clause-goes
returns-in-Some-clause-goes c = let steps = returns-in-Some-clause-steps c in search rules

pub loop-self-smaller : goal.loop-self-smaller
loop-self-smaller c =
    let at = (goal.at.loop-self-smaller c).After-step-step in
    let nearer = (step at).nearer in
    let some = next at in
    omega (arith, nearer, some)

pub loop-self-preserved : goal.loop-self-preserved
loop-self-preserved c =
    let it = c.loop-self.self-inside in
    let at = (goal.at.loop-self-preserved c).After-step-step in
    record {
      of = (step at).of;
      left =
          sym (ap (λ (o : Option ℕ). found_first o
          (touches_alive it.mark it.at it.spans.now c.step-step.result.place)) c.in-None.is)
          ∙ left at
          ∙ c.loop-self.invariant.left;
    }
