use Rattle.std.proofs.Common.{map, ap, subst, ◌∙◌}
use Rattle.std.specs.List.Sorted.{IsStrictlyIncreasing}
use Rattle.version_chains.specs.Commits.{Commit}
use Rattle.windows.specs.Compaction.{AreRising}
use Rattle.windows.proofs.WindowsLemmas.{gathered, clean_in_windows}
use Rattle.windows.proofs.laws.right_and_fresh_in_windows.Goals as goal

pub returns : goal.returns
returns c = λ seen.
    let rising : AreRising c.args.trace.now.commits =
    subst IsStrictlyIncreasing (c.commits.ensures.times ∙ ap (map (λ (x : Commit). x.at)) c.chains.ensures) c.commits.ensures.rising in
    c.right_and_fresh_without_findings.ensures (gathered c.args.trace.now rising seen) (clean_in_windows c.args.trace.now rising seen)
