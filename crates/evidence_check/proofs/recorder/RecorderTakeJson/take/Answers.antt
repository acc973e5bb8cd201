use Rattle.std.proofs.Common.{rules, ◌≡◌, None, Some}
use Rattle.json_lines.proofs.JsonLines.{fails_then}
use Rattle.evidence_check.specs.Causes.{is_memory}
use Rattle.evidence_check.specs.Reading.{place_of, record_of_text}
use Rattle.evidence_check.specs.Steps.{record_value}
use Rattle.evidence_check.proofs.StepLoops.{found_kept, kept_of, stray_kept, text_kept}
use Rattle.evidence_check.proofs.recorder.RecorderTakeJson.take.Goals as goal

pub returns-in_err-record-clause-answer : goal.returns-in_err-record-clause-answer
returns-in_err-record-clause-answer c =
    let told = fails_then is_memory _ (record_of_text c.args.text.now) (kept_of c.args.self.now) c.in_err-record.ensures in
    rw (text_kept c.args.self.now c.args.text.now) (search rules)

pub returns-in_err-place-clause-answer : goal.returns-in_err-place-clause-answer
returns-in_err-place-clause-answer c =
    let none : place_of c.in_ok-record.record.line c.args.self.now.lines ≡ None = search rules in
    let all = stray_kept c.args.self.now c.args.text.now (record_value c.in_ok-record.record) c.in_ok-record.ensures none in
    search rules

pub returns-clause-answer : goal.returns-clause-answer
returns-clause-answer c =
    let there : place_of c.in_ok-record.record.line c.args.self.now.lines ≡ Some c.in_ok-place.place = search rules in
    rw (found_kept c.args.self.now c.args.text.now (record_value c.in_ok-record.record) c.in_ok-record.ensures c.in_ok-place.place there)
    (search rules)
