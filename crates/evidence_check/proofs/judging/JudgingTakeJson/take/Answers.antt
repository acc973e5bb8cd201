use Rattle.std.proofs.Common.{rules}
use Rattle.json_lines.proofs.JsonLines.{fails_then}
use Rattle.refusals.specs.Refusals.{Fails}
use Rattle.evidence_check.specs.Alone.{settled, verdict_of}
use Rattle.evidence_check.specs.Causes.{is_memory}
use Rattle.evidence_check.proofs.RecordsApart.{text_judged}
use Rattle.evidence_check.proofs.judging.JudgingTakeJson.take.Goals as goal

pub returns-in_err-verdict-clause-answer : goal.returns-in_err-verdict-clause-answer
returns-in_err-verdict-clause-answer c =
    let told : Fails is_memory c.in_err-verdict.field-0.0 (verdict_of c.args.self.now.trace c.args.self.now.lines c.args.text.now) = search rules in
    let all = fails_then is_memory c.in_err-verdict.field-0.0 (verdict_of c.args.self.now.trace c.args.self.now.lines c.args.text.now) (λ v. settled c.args.self.now v) told in
    rw (text_judged c.args.self.now c.args.text.now) (search rules)

pub returns-clause-answer : goal.returns-clause-answer
returns-clause-answer c =
    rw (text_judged c.args.self.now c.args.text.now) (search rules)
