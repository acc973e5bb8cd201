use Rattle.std.proofs.Common.{ℕ, List, ◌++◌, length, Option, sym, ◌∙◌, ap, subst}
use Rattle.std.proofs.lemmas.Option.{same_Some}
use Rattle.std.proofs.lemmas.Result.{on_ok_weaker}
use Rattle.trace_lines.specs.Values.{EntryValue}
use Rattle.findings.specs.Findings.{found_where, on_line}
use Rattle.findings.specs.declared.finding.What.{What}
use Rattle.monitor.specs.Standing.{IsReached}
use Rattle.monitor.specs.Telling.{told_at_end}
use Rattle.monitor.proofs.CommitLemmas.{settles_never}
use Rattle.monitor.proofs.StandingLemmas.{placed_at}
use Rattle.monitor.proofs.TellingLemmas.{tells_left}
use Rattle.monitor.proofs.monitor.tell_at_end.Goals as goal

pub returns-clause-told : goal.returns-clause-told
returns-clause-told g c =
    let t = c.args.trace.now in
    let i = c.args.i in
    let old = c.args.told.now.items in
    let placed = c.stand_in_order.ensures in
    let required = c.requires.entry in
    on_ok_weaker c.push_found.result (λ more e at.
    let same = same_Some _ e (sym c.entry.ensures.value ∙ at) in
    let line = ap (λ (x : EntryValue). x.line) same in
    let unreached = subst (λ (x : EntryValue). ¬ IsReached t (length t.commits) x.snapshot) (same_Some _ e (sym required.1 ∙ at)) required.2 in
    tells_left g.J.Judge.allows t i e c.in_ok-judged.judged old c.push_found.new.findings.items (c.in_ok-judged.ensures.judged e at)
    (settles_never t placed.commits e (placed_at t placed i e at) unreached)
    (more ∙ ap (λ (found : List (Option What)). old ++ on_line c.entry.result.line found)
    (c.at_end.ensures ∙ ap told_at_end (c.found_where-found.ensures e at))
    ∙ ap (λ (l : ℕ). old ++ on_line l (told_at_end (found_where t c.in_ok-judged.judged i e))) line))
    c.push_found.ensures.pushes
