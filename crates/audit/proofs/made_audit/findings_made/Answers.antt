use Rattle.std.proofs.Common.{◌≡◌, List, Option, length, ap, sym, subst}
use Rattle.std.specs.List.{AllZip, flat_map, range_with_len}
use Rattle.std.proofs.lemmas.Result.{IfOk-weaker}
use Rattle.audit_slices.specs.Reports.{report_items}
use Rattle.evidence_check.specs.Steps.{StepValue}
use Rattle.findings.specs.Findings.{findings_of}
use Rattle.audit.specs.Made.{AreMade}
use Rattle.audit.specs.MadeAudit.{IsFoundMade}
use Rattle.audit.specs.declared.shared.Found.{Found}
use Rattle.audit.proofs.MadeAuditLemmas.{made_findings}
use Rattle.audit.proofs.made_audit.findings_made.Goals as goal

pub returns : goal.returns
returns g c =
    let t = c.args.trace.now in
    IfOk-weaker c.gather.result _
    (λ v. (given : List (Option (List StepValue))) × AreMade t t.entries given × (v.items ≡ findings_of t given))
    (λ v is. made_findings t _ v.items is
    (subst (λ (l : List Found). AllZip (IsFoundMade t) (range_with_len 0 (length t.entries)) l)
    (ap (flat_map report_items) (sym c.as_slice.ensures.value)) c.in_ok-reports.ensures)) c.gather.ensures
