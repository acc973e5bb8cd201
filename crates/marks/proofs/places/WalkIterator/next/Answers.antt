use Rattle.std.proofs.Common.{◌∙◌, sym, rules, arith}
use Rattle.marks.proofs.IndexLemmas.{walked_on, walked_over}
use Rattle.marks.proofs.places.WalkIterator.next.Goals as goal

pub invariant_of-self : goal.invariant_of-self
invariant_of-self c =
    let some = c.if-self-eq0.false in
    walked_on c.self.inside.mark c.self.inside.places.now c.self.inside.place c.older-self-inside.result c.self.invariant (omega (arith, some)) c.older-self-inside.ensures

pub returns-clause-steps : goal.returns-clause-steps
returns-clause-steps c =
    let some = c.if-self-eq0.false in
    sym c.self.view_is
    ∙ walked_over c.self.inside.mark c.self.inside.places.now c.self.inside.place c.older-self-inside.result c.self.invariant (omega (arith, some)) c.older-self-inside.ensures

pub returns-clause-goes : goal.returns-clause-goes
returns-clause-goes c = let steps = returns-clause-steps c in search rules
