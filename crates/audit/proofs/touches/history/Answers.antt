use Rattle.std.proofs.Common.{◌∙◌, ◌++◌, ℕ, List, ap, subst}
use Rattle.audit.specs.Answers.{TellsOfTrace}
use Rattle.audit.specs.Devices.{writes, FailsWriting}
use Rattle.audit.specs.History.{TellsHistory, BreaksHistory}
use Rattle.audit.proofs.Answering.{tells_of, trace_not_read}
use Rattle.audit.proofs.KindLemmas.{handed_on}
use Rattle.audit.proofs.touches.history.Goals as goal

pub returns-in_err-trace-clause-told : goal.returns-in_err-trace-clause-told
returns-in_err-trace-clause-told g c =
    handed_on (TellsOfTrace (λ a. TellsHistory a c.args.tuple.now) (λ a. BreaksHistory a c.args.tuple.now) _ _) _
    c.from_residual.ensures.1 (trace_not_read _ _ _ _ _ c.in_err-trace.ensures)

pub returns-clause-told : goal.returns-clause-told
returns-clause-told g c =
    let t = c.in_ok-trace.trace in
    let out =
    writes g.W.Sink.taken g.W.Sink.flushes g.W.Sink.failures g.W.Sink.idle g.W.Write.contents c.args.out.now
    c.tell_history-answer.new.out in
    tells_of (λ a. TellsHistory a c.args.tuple.now) (λ a. BreaksHistory a c.args.tuple.now) _ _ out t
    c.tell_history-answer.result c.in_ok-trace.ensures c.tell_history-answer.ensures
    (λ a text old new n is says went. (t, is, went ∙ ap (λ (l : List ℕ). old ++ l) says.0, says.1))
    (λ a text v n is says fails. (t, is, subst (λ (l : List ℕ). FailsWriting out n l) says.0 fails))
