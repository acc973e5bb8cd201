use Rattle.std.proofs.Common.{◌∙◌, List, subst, sym}
use Rattle.evidence_check.specs.Judging.{AreJudged}
use Rattle.evidence_check.specs.declared.judged.Judged.{Judged}
use Rattle.audit.specs.Devices.{writer}
use Rattle.audit.specs.Joined.{AuditedJoined}
use Rattle.audit.specs.Parts.{IsReport}
use Rattle.audit.proofs.Answering.{as_report, told_no_memory}
use Rattle.audit.proofs.JoinedLemmas.{joined_told, joined_unread}
use Rattle.audit.proofs.KindLemmas.{handed_on}
use Rattle.audit.proofs.joined.audit_joined.Goals as goal

pub returns-in_err-trace : goal.returns-in_err-trace
returns-in_err-trace g c =
    handed_on (AuditedJoined _ _) _ c.from_residual.ensures.1 (joined_unread _ _ _ c.in_err-trace.ensures)

pub returns-in_err-found : goal.returns-in_err-found
returns-in_err-found g c =
    let read = c.in_ok-trace.ensures in
    let t = c.in_ok-trace.trace in
    handed_on (AuditedJoined _ _) _ c.from_residual-in_err-found.ensures.1
    (joined_told _ _ t c.in_ok-trace.judgements read c.right_and_fresh_without_findings.ensures _
    (told_no_memory (IsReport t read.given.0)
    (writer g.W.Sink.taken g.W.Sink.flushes g.W.Sink.failures g.W.Sink.idle g.W.Write.contents c.args.out.now)))

pub returns : goal.returns
returns g c =
    let read = c.in_ok-trace.ensures in
    let t = c.in_ok-trace.trace in
    joined_told _ _ t c.in_ok-trace.judgements read c.right_and_fresh_without_findings.ensures c.tell_findings.result
    (as_report t read.given.0 c.deref-2.result.now c.len-entries.result _ c.tell_findings.result
    (c.deref-2.ensures.value ∙ c.in_ok-found.ensures read.given.0
    (subst (λ (js : List Judged). AreJudged t read.given.0 js) (sym c.deref.ensures.value) read.given.1))
    c.len-entries.ensures.count c.tell_findings.ensures)
