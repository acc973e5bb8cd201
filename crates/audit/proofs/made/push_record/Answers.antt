use Rattle.std.proofs.Common.{List, subst}
use Rattle.evidence_check.specs.Steps.{step_values}
use Rattle.evidence_check.specs.declared.step.Step.{Step}
use Rattle.record_text.specs.ReadBack.{IsTaken}
use Rattle.audit.proofs.made.push_record.Goals as goal

pub returns-in_ok-write_record-in-Some-clause-taken : goal.returns-in_ok-write_record-in-Some-clause-taken
returns-in_ok-write_record-in-Some-clause-taken c =
    let taken =
    subst (λ (l : List Step). IsTaken c.args.line (step_values l)) c.deref.ensures.value
    c.in_ok-write_record-in-Some.ensures.taken in
    rw c.in-Some.is taken
