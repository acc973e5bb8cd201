use Rattle.std.proofs.Common.{Result, Ok, Err, IsUtf8, subst}
use Rattle.std.specs.Prelude.{OnOk}
use Rattle.std.proofs.lemmas.Str.{IsUtf8-string_bytes}
use Rattle.evidence_check.specs.Steps.{step_values}
use Rattle.record_text.proofs.record.write_record.Goals as goal

-- what holds anyhow
on_ok : {A E P : Type 0} (r : Result A E) → P → OnOk r P
on_ok (Ok x) p = p
on_ok (Err e) p = tt

pub returns-clause-taken : goal.returns-clause-taken
returns-clause-taken c =
    on_ok c.push_str.result (c.taken.ensures c.args.line (step_values c.args.steps.now) c.ranges.line.fits c.in_ok-text.ensures.form (subst IsUtf8 c.in_ok-text.ensures.text (IsUtf8-string_bytes c.in_ok-text.text)))

pub returns-clause-read_back : goal.returns-clause-read_back
returns-clause-read_back c =
    on_ok c.push_str.result (c.read_back.ensures c.args.line (step_values c.args.steps.now) c.ranges.line.fits c.in_ok-text.ensures.form (subst IsUtf8 c.in_ok-text.ensures.text (IsUtf8-string_bytes c.in_ok-text.text)))
