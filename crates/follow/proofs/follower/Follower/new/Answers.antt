use Rattle.std.proofs.Common.{[], refl, arith}
use Rattle.follow.proofs.follower.Follower.new.Goals as goal

pub returns-clause-followed : goal.returns-clause-followed
returns-clause-followed c t =
    let entries = c.new.ensures.entries in
    let commits = c.new.ensures.commits in record {
      stands = c.new.ensures.stands t;
      all = [];
      told = record {
        line = 0;
        from = omega arith;
        given = [];
        up_to = record {
          entries_before = λ i e at lt. absurd (omega (arith, lt, entries));
          entries_from = λ i e at le. omega arith;
          commits_before = λ k inside lt. absurd (omega (arith, lt, commits));
          commits_from = λ k inside le. omega arith;
        };
        allowed = λ i e at l is from lt. absurd (omega (arith, lt));
        told = refl;
      };
      asked_alone = c.new-2.ensures.items;
      within = omega arith;
      settled = λ i e at lt. absurd (omega (arith, lt));
    }
