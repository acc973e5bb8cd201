use Rattle.std.proofs.lemmas.Result.{IfOk-weaker}
use Rattle.rewrites.specs.Parts.{rule_shown}
use Rattle.judgement.specs.Facts.{marked_fact}
use Rattle.evidence_check.proofs.JudgedLemmas.{settled_by_rule}
use Rattle.evidence_check.proofs.judged.settles.Goals as goal

pub does-requires : goal.does-requires
does-requires g c =
    let wide = rw c.in-Wide.is at c.requires.rule in
    rw wide.1 wide.0

pub returns-in-Wide-clause-settles : goal.returns-in-Wide-clause-settles
returns-in-Wide-clause-settles g c =
    let f = marked_fact c.args.fact in
    let x = rule_shown c.in-Wide.rule.now in
    let wide = rw c.in-Wide.is at c.requires.rule in
    let both = settled_by_rule c.args.asked.now c.args.at c.args.known.now f c.args.is_given x wide.0 in
    IfOk-weaker c.does.result _ _ (λ r d. (λ t. both.0 (d.0 t), λ s. d.1 (both.1 s))) c.does.ensures.does
