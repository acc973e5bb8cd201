use Rattle.std.proofs.Common.{rules}
use Rattle.evidence_check.specs.Evidences.{evidence_value}
use Rattle.audit.proofs.plain.audit_values.Goals as goal

pub returns-in_err-findings-clause-wrong_replies : goal.returns-in_err-findings-clause-wrong_replies
returns-in_err-findings-clause-wrong_replies g c =
    c.wrong_replies_are_wrong.ensures (evidence_value c.args.evidence.now)

pub returns-in_err-findings-clause-entries : goal.returns-in_err-findings-clause-entries
returns-in_err-findings-clause-entries g c = c.each_entry.ensures (evidence_value c.args.evidence.now)

pub returns-clause-wrong_replies : goal.returns-clause-wrong_replies
returns-clause-wrong_replies g c = c.wrong_replies_are_wrong.ensures (evidence_value c.args.evidence.now)

pub returns-clause-no_new_enemy : goal.returns-clause-no_new_enemy
returns-clause-no_new_enemy g c is_clean = c.no_new_enemy.ensures
    (c.right_and_fresh_without_findings.ensures (evidence_value c.args.evidence.now) (search rules))

pub returns-clause-entries : goal.returns-clause-entries
returns-clause-entries g c = c.each_entry.ensures (evidence_value c.args.evidence.now)
