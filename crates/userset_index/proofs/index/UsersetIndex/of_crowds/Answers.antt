use Rattle.version_chains.specs.Commits.{changelog}
use Rattle.userset_index.proofs.index.UsersetIndex.of_crowds.Goals as goal

pub returns-clause-index : goal.returns-clause-index
returns-clause-index c =
    let lives = c.in_ok-own.ensures c.args.rules.now (changelog c.args.chains.now.commits) _ c.in_ok-crowds.ensures in
    λ _. record {
      own = lives.own_held;
      own_exact = lives.own_exact;
      through = lives.through_held;
      through_exact = lives.through_exact;
      objects = lives.objects_held;
      timed = c.in_ok-times.ensures;
    }
