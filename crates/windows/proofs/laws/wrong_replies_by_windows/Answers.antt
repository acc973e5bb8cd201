use Rattle.std.proofs.Common.{map, ap, subst, sym, ◌∙◌}
use Rattle.std.specs.List.Sorted.{IsStrictlyIncreasing}
use Rattle.version_chains.specs.Commits.{Commit}
use Rattle.windows.specs.Compaction.{AreRising}
use Rattle.findings.specs.WrongReplies.{HasOnlyWrongRepliesNamed}
use Rattle.windows.proofs.ShownLemmas.{together}
use Rattle.windows.proofs.laws.wrong_replies_by_windows.Goals as goal

pub returns : goal.returns
returns c = λ evidence ws show.
    let rising : AreRising c.args.trace.now.commits =
    subst IsStrictlyIncreasing (c.commits.ensures.times ∙ ap (map (λ (x : Commit). x.at)) c.chains.ensures) c.commits.ensures.rising in
    subst (HasOnlyWrongRepliesNamed c.args.trace.now) (sym (together c.args.trace.now evidence rising ws show)) (c.wrong_replies_are_wrong.ensures evidence)
