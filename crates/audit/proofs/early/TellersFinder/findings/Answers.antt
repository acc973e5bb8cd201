use Rattle.std.proofs.Common.{inr}
use Rattle.audit.specs.Early.{TellsEarly}
use Rattle.audit.proofs.Answering.{told_of}
use Rattle.audit.proofs.early.TellersFinder.findings.Goals as goal

pub returns-in_err-findings_early-clause-tells : goal.returns-in_err-findings_early-clause-tells
returns-in_err-findings_early-clause-tells g c =
    inr
    (told_of (λ given. TellsEarly c.args.trace.now given _ _) c.in_ok-judgements.ensures
    (λ given are. c.findings_early.ensures.early given (rw c.deref.ensures.value are)))

pub returns-clause-tells : goal.returns-clause-tells
returns-clause-tells g c =
    inr
    (told_of (λ given. TellsEarly c.args.trace.now given _ _) c.in_ok-judgements.ensures
    (λ given are. c.findings_early.ensures.early given (rw c.deref.ensures.value are)))
