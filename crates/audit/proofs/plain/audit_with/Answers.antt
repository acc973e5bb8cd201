use Rattle.std.proofs.Common.{◌≡◌, ◌∙◌}
use Rattle.audit.specs.Answers.{Audited}
use Rattle.audit.specs.Parts.{AreFound}
use Rattle.audit.proofs.Answering.{audited, audited_no_trace, audited_no_evidence, as_report, told_by_bytes}
use Rattle.audit.proofs.KindLemmas.{handed_on}
use Rattle.audit.proofs.plain.audit_with.Goals as goal

pub returns-in_err-trace-clause-audited : goal.returns-in_err-trace-clause-audited
returns-in_err-trace-clause-audited g c =
    handed_on (Audited _ _ _) _ c.from_residual.ensures.1 (audited_no_trace _ _ _ _ c.in_err-trace.ensures)

pub returns-in_err-found-clause-audited : goal.returns-in_err-found-clause-audited
returns-in_err-found-clause-audited g c =
    handed_on (Audited _ _ _) _ c.from_residual-in_err-found.ensures.1
    (audited_no_evidence (AreFound c.in_ok-trace.trace) _ _ _ c.in_ok-trace.trace _ c.in_ok-trace.ensures
    c.in_err-found.ensures.read)

pub returns-in_err-found-clause-tells : goal.returns-in_err-found-clause-tells
returns-in_err-found-clause-tells g c =
    told_by_bytes (c.findings-found.new.self ≡ c.args.finder.now)
    (λ t given. g.F.Finder.tells t given c.args.finder.now c.findings-found.new.self)
    c.in_ok-trace.ensures c.findings-found.ensures.read c.findings-found.ensures.tells

pub returns-clause-audited : goal.returns-clause-audited
returns-clause-audited g c =
    let by = c.in_ok-found.ensures.read in
    audited _ _ _ c.in_ok-trace.trace c.in_ok-found.field-0 c.tell_findings.result c.in_ok-trace.ensures by
    c.right_and_fresh_without_findings.ensures
    (as_report c.in_ok-trace.trace by.given.0 c.deref.result.now c.len-entries.result _ c.tell_findings.result
    (c.deref.ensures.value ∙ by.given.1) c.len-entries.ensures.count c.tell_findings.ensures)

pub returns-clause-tells : goal.returns-clause-tells
returns-clause-tells g c =
    told_by_bytes (c.findings-found.new.self ≡ c.args.finder.now)
    (λ t given. g.F.Finder.tells t given c.args.finder.now c.findings-found.new.self)
    c.in_ok-trace.ensures c.findings-found.ensures.read c.findings-found.ensures.tells
