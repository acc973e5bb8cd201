use Rattle.std.proofs.Common.{◌∙◌, Err}
use Rattle.audit.specs.Answers.{AuditedMade}
use Rattle.audit.specs.Devices.{writer}
use Rattle.audit.specs.MadeAudit.{AuditsMade, BreaksMade}
use Rattle.audit.specs.declared.plain.AuditFault.TheVariants as faults
use Rattle.audit.proofs.Answering.{as_report, told_no_memory, trace_not_read, tells_of}
use Rattle.audit.proofs.KindLemmas.{handed_on}
use Rattle.audit.proofs.MadeAuditLemmas.{audited_made, made_fault}
use Rattle.audit.proofs.made_audit.audit_made_by.Goals as goal

pub returns-in_err-trace-clause-made : goal.returns-in_err-trace-clause-made
returns-in_err-trace-clause-made g c =
    handed_on (AuditedMade _ _) _ c.from_residual.ensures.1
    (made_fault _ _ _ (trace_not_read AuditsMade BreaksMade _ _ _ c.in_err-trace.ensures))

pub returns-in_err-found-clause-made : goal.returns-in_err-found-clause-made
returns-in_err-found-clause-made g c =
    let out =
    writer g.W.Sink.taken g.W.Sink.flushes g.W.Sink.failures g.W.Sink.idle g.W.Write.contents c.args.out.now in
    handed_on (AuditedMade _ _) _ c.from_residual-in_err-found.ensures.1
    (made_fault _ out faults.OutOfMemory
    (tells_of AuditsMade BreaksMade (λ text v. ⊥) _ (record { before = out; after = out }) c.in_ok-trace.trace
    (Err faults.OutOfMemory) c.in_ok-trace.ensures (told_no_memory (λ text v. ⊥) out)
    (λ a text old new v is says went. absurd says) (λ a text v n is says fails. absurd says)))

pub returns-clause-made : goal.returns-clause-made
returns-clause-made g c =
    let made = c.in_ok-found.ensures in
    let t = c.in_ok-trace.trace in
    audited_made _ _ t c.in_ok-trace.ensures made.0 c.tell_findings.result made.1
    c.right_and_fresh_without_findings.ensures
    (as_report t made.0 c.deref.result.now c.len-entries.result _ c.tell_findings.result
    (c.deref.ensures.value ∙ made.2) c.len-entries.ensures.count c.tell_findings.ensures)
