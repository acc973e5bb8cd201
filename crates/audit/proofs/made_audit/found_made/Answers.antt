use denote.Param.Send.{sendable}
use Rattle.std.proofs.Crossing.{crosses}
use Rattle.std.proofs.Common.{ℕ, List, length, ap, subst}
use Rattle.std.proofs.lemmas.Result.{IfOk-weaker}
use Rattle.std.specs.List.{AllZip, flat_map, range_with_len}
use Rattle.audit_slices.specs.Reports.{report_items}
use Rattle.audit.specs.MadeAudit.{IsFoundMade}
use Rattle.evidence_check.proofs.TraceSync.{trace_sync}
use Rattle.audit.proofs.made_audit.found_made.Goals as goal

pub returns : goal.returns
returns g c =
    let t = c.args.trace.now in
    IfOk-weaker c.reports_by.result _
    (λ v. AllZip (IsFoundMade t) (range_with_len 0 (length t.entries)) (flat_map report_items v.items))
    (λ v each. subst (λ (entries : List ℕ). AllZip (IsFoundMade t) entries (flat_map report_items v.items))
    (ap (range_with_len 0) c.len-entries.ensures.count) each) c.reports_by.ensures.all

pub reports_by-requires-sync-C : goal.reports_by-requires-sync-C
reports_by-requires-sync-C g c = λ κs h. search (sendable, crosses, trace_sync) depth 40
