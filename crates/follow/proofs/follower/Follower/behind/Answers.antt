use Rattle.std.proofs.Common.{[], arith}
use Rattle.follow_laws.specs.Begun.{IsOfBytes}
use Rattle.follow.proofs.FollowerLemmas.{told_behind}
use Rattle.follow.proofs.follower.Follower.behind.Goals as goal

pub returns-clause-followed : goal.returns-clause-followed
returns-clause-followed c =
    let t = c.args.trace.now in
    let placed = c.stand_in_order.ensures in
    let rising = c.entries_rise.ensures in
    let good : IsOfBytes t = record {
      rising = record { commits = placed.commits; entries = rising };
      formed = record { lines = rising; versions = c.versions_issued_once.ensures; strata = c.valid_strata.ensures };
    } in
    let stood = c.in_ok-monitor.ensures in record {
      stands = stood.0;
      all = [];
      told = told_behind t placed good c.in_ok-monitor.monitor stood.1 c.args.first c.requires;
      asked_alone = c.new.ensures.items;
      within = omega arith;
      settled = λ i e at lt. absurd (omega (arith, lt));
    }
