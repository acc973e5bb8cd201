use Rattle.std.proofs.Common.{rules, ◌≡◌, None, Some}
use Rattle.json_lines.proofs.JsonLines.{fails_then}
use Rattle.evidence_check.specs.Causes.{is_memory}
use Rattle.evidence_check.specs.Reading.{place_of, record_of_text}
use Rattle.evidence_check.specs.Steps.{record_value}
use Rattle.evidence_check.proofs.RecordsApart.{found_alone, stray_alone, text_alone, verdict_by}
use Rattle.evidence_check.proofs.alone.judge_alone.Goals as goal

pub returns-in_err-record-clause-verdict : goal.returns-in_err-record-clause-verdict
returns-in_err-record-clause-verdict c =
    let told = fails_then is_memory _ (record_of_text c.args.text.now) (verdict_by c.args.asked.now c.args.lines.now) c.in_err-record.ensures in
    rw (text_alone c.args.asked.now c.args.lines.now c.args.text.now) (search rules)

pub returns-in_err-place-clause-verdict : goal.returns-in_err-place-clause-verdict
returns-in_err-place-clause-verdict c =
    let none : place_of c.in_ok-record.record.line c.args.lines.now ≡ None = search rules in
    let all = stray_alone c.args.asked.now c.args.lines.now c.args.text.now (record_value c.in_ok-record.record) c.in_ok-record.ensures none in
    search rules

pub returns-clause-verdict : goal.returns-clause-verdict
returns-clause-verdict c =
    let there : place_of c.in_ok-record.record.line c.args.lines.now ≡ Some c.in_ok-place.place = search rules in
    let all = found_alone c.args.asked.now c.args.lines.now c.args.text.now (record_value c.in_ok-record.record) c.in_ok-record.ensures c.in_ok-place.place there in
    search rules
