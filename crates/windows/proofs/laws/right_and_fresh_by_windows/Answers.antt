use Rattle.std.proofs.Common.{map, ap, subst, sym, ◌∙◌}
use Rattle.std.specs.List.Sorted.{IsStrictlyIncreasing}
use Rattle.version_chains.specs.Commits.{Commit}
use Rattle.windows.specs.Compaction.{AreRising}
use Rattle.windows.proofs.ShownLemmas.{together}
use Rattle.windows.proofs.laws.right_and_fresh_by_windows.Goals as goal

pub returns : goal.returns
returns c = λ evidence ws show none.
    let rising : AreRising c.args.trace.now.commits =
    subst IsStrictlyIncreasing (c.commits.ensures.times ∙ ap (map (λ (x : Commit). x.at)) c.chains.ensures) c.commits.ensures.rising in
    c.right_and_fresh_without_findings.ensures evidence (sym (together c.args.trace.now evidence rising ws show) ∙ none)
