use Rattle.std.proofs.Common.{◌≡◌, ◌∙◌, ◌+◌, ◌∷◌, drop, add-one, refl}
use Rattle.std.proofs.Math.Seq.{drop-cons}
use Rattle.evidence_check.specs.Rules.{IsLast}
use Rattle.evidence_check.proofs.judged.are_disproved.Goals as goal

pub returns-then-not-branch-clause-disproved : goal.returns-then-not-branch-clause-disproved
returns-then-not-branch-clause-disproved c =
    let fs = c.args.facts.now in
    let i = c.loop-fact.fact-index in
    let f = c.fact-item.result in
    let left : drop i fs ≡ f ∷ drop (i + 1) fs = rw (drop-cons fs i f c.loop-fact-test.true, add-one, ← c.fact-item.is) refl in
    let settled = rw (c.loop-fact.invariant.2, c.if-not-branch.true) at c.in_ok-is_settled.ensures.settled in
    (λ t. cc, λ all. settled.1 (rw left at (c.loop-fact.invariant.0.1 all)).0)

pub loop-fact-preserved : goal.loop-fact-preserved
loop-fact-preserved c =
    let fs = c.args.facts.now in
    let i = c.loop-fact.fact-index in
    let f = c.fact-item.result in
    let left : drop i fs ≡ f ∷ drop (i + 1) fs = rw (drop-cons fs i f c.loop-fact-test.true, add-one, ← c.fact-item.is) refl in
    let settled = rw c.loop-fact.invariant.2 at c.in_ok-is_settled.ensures.settled in
    let last : IsLast c.args.asked.now.declarations c.args.at c.is_settled.new.last = rw c.loop-fact.invariant.2 at c.in_ok-is_settled.ensures.last in (
      (λ rest. c.loop-fact.invariant.0.0 (rw left (settled.0 c.if-not-branch.false, rest)), λ all. (rw left at (c.loop-fact.invariant.0.1 all)).1),
      last,
      c.in_ok-is_settled.ensures.asked ∙ c.loop-fact.invariant.2,
    )
