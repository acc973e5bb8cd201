use Rattle.std.proofs.Common.{◌≡◌, ℕ, ◌≤◌, List, ◌++◌, Option, sym, ◌∙◌, ap, subst}
use Rattle.std.proofs.lemmas.Option.{same_Some, get_or_from_slice_get}
use Rattle.std.proofs.lemmas.Result.{on_ok_weaker}
use Rattle.trace_lines.specs.Values.{EntryValue}
use Rattle.findings.specs.Findings.{found_where, on_line}
use Rattle.findings.specs.declared.finding.What.{What}
use Rattle.monitor.specs.Standing.{IsReached, line_of, time_of}
use Rattle.monitor.specs.Telling.{told_at_commit}
use Rattle.monitor.proofs.CommitLemmas.{settles_here, settles_nowhere}
use Rattle.monitor.proofs.StandingLemmas.{placed_at, not_own}
use Rattle.monitor.proofs.TellingLemmas.{tells_there}
use Rattle.monitor.proofs.monitor.tell_at_commit.Goals as goal

pub returns-clause-told : goal.returns-clause-told
returns-clause-told g c =
    let t = c.args.trace.now in
    let i = c.args.i in
    let k = line_of t c.args.c in
    let old = c.args.told.now.items in
    let placed = c.stand_in_order.ensures in
    let required = c.requires.entry in
    on_ok_weaker c.push_found.result (λ more e at.
    let same = same_Some _ e (sym c.entry-entry.ensures.value ∙ at) in
    let line = ap (λ (x : EntryValue). x.line) same in
    let snapshot = ap (λ (x : EntryValue). x.snapshot) same in
    let behind : e.before ≤ c.args.c = subst (λ (x : EntryValue). x.before ≤ c.args.c) (same_Some _ e (sym required.1 ∙ at)) required.2 in
    let p = placed_at t placed i e at in
    let own_line : c.commit_line.result ≡ k = sym (get_or_from_slice_get t.commit_lines c.args.c c.commit_line.result 0 c.commit_line.ensures.line) in
    tells_there g.J.Judge.allows t k i e c.settles-now.result c.in_ok-judged.judged old c.push_found.new.findings.items
    (c.in_ok-judged.ensures.judged e at) (not_own t placed c.entries_rise.ensures c.args.c i e at c.requires.commit behind)
    (λ yes. let h = subst (λ (s : ℕ). (s ≤ time_of t c.args.c) × ¬ IsReached t c.args.c s) snapshot (c.settles-now.ensures.reaches yes) in
    settles_here t placed.commits e p c.args.c c.requires.commit behind h.0 h.1)
    (λ not. settles_nowhere t placed.commits e p c.args.c c.requires.commit behind
    (subst (λ (s : ℕ). ¬ ((s ≤ time_of t c.args.c) × ¬ IsReached t c.args.c s)) snapshot (c.settles-now.ensures.not not)))
    (more ∙ ap (λ (found : List (Option What)). old ++ on_line c.entry-entry.result.line found)
    (c.at_commit.ensures ∙ ap (λ (found : List (Option What)). told_at_commit found c.commit_line.result) (c.found_where-found.ensures e at)
    ∙ ap (told_at_commit (found_where t c.in_ok-judged.judged i e)) own_line)
    ∙ ap (λ (l : ℕ). old ++ on_line l (told_at_commit (found_where t c.in_ok-judged.judged i e) k)) line))
    c.push_found.ensures.pushes
