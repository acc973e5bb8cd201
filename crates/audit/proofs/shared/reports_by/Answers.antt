use Rattle.std.proofs.Common.{ℕ, List, subst}
use Rattle.std.proofs.lemmas.Result.{IfOk-weaker}
use Rattle.std.specs.List.{AllZip, flat_map, range_with_len}
use Rattle.audit_slices.specs.Reports.{report_items}
use Rattle.audit.proofs.shared.reports_by.Goals as goal

pub returns-clause-all : goal.returns-clause-all
returns-clause-all g c =
    let gives = g.C.Check.gives c.args.check.now in
    IfOk-weaker c.run_pool.result _
    (λ v. AllZip gives (range_with_len 0 c.args.entries) (flat_map report_items v.items))
    (λ v each. subst (λ (entries : List ℕ). AllZip gives entries (flat_map report_items v.items))
    c.in_ok-slices.ensures.entries each) c.run_pool.ensures.all
