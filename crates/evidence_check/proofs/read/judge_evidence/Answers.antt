use Rattle.std.proofs.Common.{refl}
use Rattle.json_lines.proofs.InputReads.{unread}
use Rattle.evidence_check.proofs.Judgements.{judged_read, refused_read}
use Rattle.evidence_check.proofs.read.judge_evidence.Goals as goal

pub returns-in-Err : goal.returns-in-Err
returns-in-Err g c =
    rw c.unbegun.ensures
    (unread _ _ _ _ g.R.Source.given g.R.Source.ends g.R.Source.failures g.R.Read.remaining c.args.reader.now _ refl
    (λ e. cc) (λ input. tt))

pub returns-in-Ok-read_lines : goal.returns-in-Ok-read_lines
returns-in-Ok-read_lines g c =
    judged_read g.R.Source.given g.R.Source.ends g.R.Source.failures g.R.Read.remaining c.args.reader.now
    c.read_lines.new.reader c.args.trace.now c.in-Ok.judging c.read_lines.new.value c.in-Ok.ensures _ _
    c.into_judgements.ensures c.in-Ok-read_lines.ensures.read

pub returns-in-Err-read_lines : goal.returns-in-Err-read_lines
returns-in-Err-read_lines g c =
    refused_read g.R.Source.given g.R.Source.ends g.R.Source.failures g.R.Read.remaining c.args.reader.now
    c.read_lines.new.reader c.args.trace.now c.in-Ok.judging c.read_lines.new.value c.in-Ok.ensures
    c.in-Err-read_lines.refused _ c.cause.ensures c.in-Err-read_lines.ensures.told c.in-Err-read_lines.ensures.read
