use Rattle.std.proofs.Common.{◌∙◌, List, sym, ap, map}
use Rattle.version_chains.specs.Commits.{Commit}
use Rattle.follow.proofs.FollowerLemmas.{reached_by}
use Rattle.follow.proofs.heartbeat.is_reached.Goals as goal

pub returns-in-Some : goal.returns-in-Some
returns-in-Some c le =
    reached_by c.args.trace.now.commits c.args.at c.commits.result.now _ c.in-Some.last.now
    (c.commits.ensures.times ∙ ap (λ (cs : List Commit). map (λ (x : Commit). x.at) cs) c.chains.ensures)
    (sym c.in-Some.ensures.value) le
