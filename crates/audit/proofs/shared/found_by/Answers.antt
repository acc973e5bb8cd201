use denote.Param.Send.{sendable}
use Rattle.std.proofs.Crossing.{crosses}
use Rattle.std.proofs.Common.{◌≡◌, ap}
use Rattle.std.proofs.lemmas.Result.{IfOk-weaker}
use Rattle.std.specs.List.{flat_map, range_with_len}
use Rattle.audit_slices.specs.Reports.{report_items}
use Rattle.audit.specs.Shared.{all_judged}
use Rattle.audit.proofs.SharedLemmas.{all_are_judged}
use Rattle.evidence_check.proofs.TraceSync.{trace_sync}
use Rattle.audit.proofs.shared.found_by.Goals as goal

pub returns-clause-found : goal.returns-clause-found
returns-clause-found g c =
    let t = c.args.trace.now in
    let judgements = c.args.judgements.now in
    IfOk-weaker c.reports_by.result _ (λ v. flat_map report_items v.items ≡ all_judged t judgements)
    (λ v each. all_are_judged t judgements _ (flat_map report_items v.items)
    (ap (range_with_len 0) c.len-entries.ensures.count) each)
    c.reports_by.ensures.all

pub reports_by-requires-sync-C : goal.reports_by-requires-sync-C
reports_by-requires-sync-C g c = λ κs h. search (sendable, crosses, trace_sync) depth 40 fits 100000
