use Rattle.std.proofs.Common.{map, ap, ◌∙◌}
use Rattle.version_chains.specs.Commits.{Commit}
use Rattle.token_order.proofs.order.standing.Goals as goal

pub returns-clause-among : goal.returns-clause-among
returns-clause-among c =
    let f = c.entry.ensures in
    record {
      counted = f.counted;
      within = f.before;
      earlier = f.earlier;
      later = f.later;
      are = c.commits.ensures.times ∙ ap (map (λ (k : Commit). k.at)) c.chains.ensures;
      rising = c.commits.ensures.rising;
    }
