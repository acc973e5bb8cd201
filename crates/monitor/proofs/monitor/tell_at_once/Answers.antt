use Rattle.std.proofs.Common.{ℕ, List, ◌++◌, Option, sym, ◌∙◌, ap}
use Rattle.std.proofs.lemmas.Option.{same_Some}
use Rattle.std.proofs.lemmas.Result.{on_ok_weaker}
use Rattle.trace_lines.specs.Values.{EntryValue}
use Rattle.findings.specs.Findings.{found_where, on_line}
use Rattle.findings.specs.declared.finding.What.{What}
use Rattle.monitor.specs.Telling.{told_at_once}
use Rattle.monitor.proofs.CommitLemmas.{settles_at_once, settles_later}
use Rattle.monitor.proofs.StandingLemmas.{placed_at, opens_later}
use Rattle.monitor.proofs.TellingLemmas.{tells_once}
use Rattle.monitor.proofs.monitor.tell_at_once.Goals as goal

pub returns-clause-told : goal.returns-clause-told
returns-clause-told g c =
    let t = c.args.trace.now in
    let i = c.args.i in
    let old = c.args.told.now.items in
    let placed = c.stand_in_order.ensures in
    on_ok_weaker c.push_found.result (λ more e at.
    let same = same_Some _ e (sym c.entry.ensures.value ∙ at) in
    let line = ap (λ (x : EntryValue). x.line) same in
    let p = placed_at t placed i e at in
    tells_once g.J.Judge.allows t i e c.args.reached c.in_ok-judged.judged old c.push_found.new.findings.items
    (c.in_ok-judged.ensures.judged e at) (opens_later t placed c.entries_rise.ensures i e at)
    (λ yes. settles_at_once t placed.commits e p (c.requires.yes yes e at))
    (λ not. settles_later t placed.commits e p (c.requires.no not e at))
    (more ∙ ap (λ (found : List (Option What)). old ++ on_line c.entry.result.line found)
    (c.at_once.ensures ∙ ap told_at_once (c.found_where-found.ensures e at))
    ∙ ap (λ (l : ℕ). old ++ on_line l (told_at_once (found_where t c.in_ok-judged.judged i e))) line))
    c.push_found.ensures.pushes
