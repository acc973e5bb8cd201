use Rattle.std.proofs.Common.{◌≡◌, ◌+◌, ◌<◌, sym, subst, ℕ, get_or, rules, arith, length}
use Rattle.std.proofs.lemmas.Grind.{common_steps}
use Rattle.audit_slices.proofs.ReportLemmas.{given_length, given_at}
use Rattle.audit_slices.proofs.members.raise.Goals as goal

pub overflow_add-first : goal.overflow_add-first
overflow_add-first g c =
    let count : length c.args.report.now.reports.items ≡ c.args.report.now.slice.count = given_length (g.C.Check.gives c.args.check.now) c.args.report.now.slice.from c.args.report.now.slice.count c.args.report.now.reports.items c.requires.reports in
    let fits = c.requires.fits in
    first_of (search rules, grind (arith, common_steps), omega arith)

pub raise_one-requires-clause-report : goal.raise_one-requires-clause-report
raise_one-requires-clause-report g c =
    let P = g.C.Check.gives c.args.check.now in
    let items = c.args.report.now.reports.items in
    let slice = c.args.report.now.slice in
    let count : length items ≡ slice.count = given_length P slice.from slice.count items c.requires.reports in
    let within : c.loop-k.k < slice.count = first_of (omega arith, grind (arith, common_steps)) in
    subst (λ x. P (c.first.result + c.loop-k.k) x) (sym c.index.ensures)
    (subst (λ (n : ℕ). P (n + c.loop-k.k) (get_or items c.loop-k.k c.index.result.now)) (sym c.first.ensures) (given_at P slice.from slice.count c.loop-k.k c.index.result.now items c.requires.reports within))
