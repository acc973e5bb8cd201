use Rattle.std.proofs.Common.{◌↔◌, true, false}
use Rattle.rewrites.specs.View.{expression_of}
use Rattle.judgement.specs.Facts.{marked_fact}
use Rattle.evidence_check.proofs.JudgedLemmas.{settled_by_rule}
use Rattle.evidence_check.proofs.judged.settles_narrow.Goals as goal

through : {A B C : Type 0} → A ↔ B → B ↔ C → A ↔ C
through p q = (λ a. q.0 (p.0 a), λ c. p.1 (q.1 c))

pub returns-then-is_given : goal.returns-then-is_given
returns-then-is_given g c =
    let by = rw (c.at-snapshot.ensures, c.timeline.ensures) at c.established.ensures in
    rw c.if-is_given.true (through by (settled_by_rule c.args.trace.now c.args.at c.args.known.now (marked_fact c.args.fact) true (expression_of c.in-Some.rule.now) (rw c.in-Some.is at c.requires)))

pub returns-else-is_given : goal.returns-else-is_given
returns-else-is_given g c =
    let by = rw (c.at-snapshot.ensures, c.timeline.ensures) at c.refuted.ensures in
    rw c.if-is_given.false (through by (settled_by_rule c.args.trace.now c.args.at c.args.known.now (marked_fact c.args.fact) false (expression_of c.in-Some.rule.now) (rw c.in-Some.is at c.requires)))
