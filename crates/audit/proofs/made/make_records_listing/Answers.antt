use Rattle.audit.specs.Answers.{TellsOfTrace}
use Rattle.audit.specs.Made.{AreRecords, MakesRecords, BreaksMaking}
use Rattle.audit.proofs.Answering.{tells_of, trace_not_read}
use Rattle.audit.proofs.KindLemmas.{handed_on}
use Rattle.audit.proofs.made.make_records_listing.Goals as goal

pub returns-in_err-trace-clause-told : goal.returns-in_err-trace-clause-told
returns-in_err-trace-clause-told g c =
    handed_on (TellsOfTrace (λ a old new v. MakesRecords a old new v.items) BreaksMaking _ _) _
    c.from_residual.ensures.1 (trace_not_read _ _ _ _ _ c.in_err-trace.ensures)

pub returns-clause-told : goal.returns-clause-told
returns-clause-told g c =
    tells_of (λ a old new v. MakesRecords a old new v.items) BreaksMaking
    (λ text v. AreRecords c.in_ok-trace.trace text v.items) _ _ c.in_ok-trace.trace c.tell_records-answer.result
    c.in_ok-trace.ensures c.tell_records-answer.ensures
    (λ a text old new v is says went. (c.in_ok-trace.trace, is, text, says, went))
    (λ a text v n is says fails. (c.in_ok-trace.trace, is, text, v.items, says, fails))
