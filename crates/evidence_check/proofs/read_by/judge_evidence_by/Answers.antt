use denote.Param.Send.{sendable}
use Rattle.std.proofs.Common.{refl}
use Rattle.std.proofs.Crossing.{crosses}
use Rattle.json_lines.proofs.InputReads.{unread}
use Rattle.evidence_check.proofs.Judgements.{judged_read, refused_read}
use Rattle.line_blocks.proofs.Alike.{told}
use Rattle.evidence_check.proofs.DeskSend.{desk_send}
use Rattle.evidence_check.proofs.BlocksRead.{as_records}
use Rattle.evidence_check.proofs.TraceSync.{trace_sync}
use Rattle.evidence_check.proofs.Verdicts.{evidence_taken}
use Rattle.evidence_check.proofs.read_by.judge_evidence_by.Goals as goal

pub read_blocks-requires-sync-J : goal.read_blocks-requires-sync-J
read_blocks-requires-sync-J g c = λ κs. search (sendable, crosses, trace_sync) depth 40 fits 100000

pub read_blocks-requires-send-J-Scratch : goal.read_blocks-requires-send-J-Scratch
read_blocks-requires-send-J-Scratch g c = λ κs. search (sendable, crosses, desk_send) depth 40 fits 100000

pub returns-in_default : goal.returns-in_default
returns-in_default g c =
    unread _ _ _ _ g.R.Source.given g.R.Source.ends g.R.Source.failures g.R.Read.remaining c.args.reader.now _ refl
    (λ e. cc) (λ input. tt)

pub returns-in-Ok-read_blocks : goal.returns-in-Ok-read_blocks
returns-in-Ok-read_blocks g c =
    judged_read g.R.Source.given g.R.Source.ends g.R.Source.failures g.R.Read.remaining c.args.reader.now
    c.read_blocks.new.reader c.args.trace.now c.in-Ok.judging c.read_blocks.new.value c.in-Ok.ensures.judging _ _
    c.into_judgements.ensures
    (as_records g.R.Source.given g.R.Source.ends g.R.Source.failures g.R.Read.remaining c.args.trace.now
    c.in-Ok.records.trace.now c.in-Ok.records.lines c.args.reader.now c.read_blocks.new.reader c.in-Ok.judging
    c.read_blocks.new.value _ c.in-Ok.ensures.records.0 c.in-Ok.ensures.records.1 c.in-Ok.ensures.judging
    c.in-Ok-read_blocks.ensures)

pub returns : goal.returns
returns g c =
    let read =
    as_records g.R.Source.given g.R.Source.ends g.R.Source.failures g.R.Read.remaining c.args.trace.now
    c.in-Ok.records.trace.now c.in-Ok.records.lines c.args.reader.now c.read_blocks.new.reader c.in-Ok.judging
    c.read_blocks.new.value _ c.in-Ok.ensures.records.0 c.in-Ok.ensures.records.1 c.in-Ok.ensures.judging
    c.in-Err.ensures in
    refused_read g.R.Source.given g.R.Source.ends g.R.Source.failures g.R.Read.remaining c.args.reader.now
    c.read_blocks.new.reader c.args.trace.now c.in-Ok.judging c.read_blocks.new.value c.in-Ok.ensures.judging
    c.in-Err.refused _ c.cause.ensures
    (told g.R.Source.given g.R.Source.ends g.R.Source.failures g.R.Read.remaining evidence_taken c.args.reader.now
    c.read_blocks.new.reader c.in-Ok.judging c.read_blocks.new.value c.in-Err.refused read) read
