use Rattle.std.proofs.Common.{◌≡◌, ap, ◌∙◌}
use Rattle.std.proofs.lemmas.Result.{IfOk-weaker}
use Rattle.std.specs.List.{flat_map}
use Rattle.audit_slices.specs.Reports.{report_items}
use Rattle.findings.specs.Findings.{findings_of}
use Rattle.audit.proofs.SharedLemmas.{all_alike, found_are_findings}
use Rattle.audit.proofs.shared.findings_by.Goals as goal

pub returns : goal.returns
returns g c = λ given are.
    let t = c.args.trace.now in
    IfOk-weaker c.gather.result _ (λ v. v.items ≡ findings_of t given)
    (λ v is. found_are_findings t given _ v.items is
    (ap (flat_map report_items) c.as_slice.ensures.value ∙ c.in_ok-reports.ensures ∙ all_alike t given c.args.judgements.now are)) c.gather.ensures
