use Rattle.std.proofs.Common.{◌≤◌, ◌-◌, length}
use Rattle.version_chains.specs.Commits.{changelog}
use Rattle.userset_index.specs.Growth.{IsGrownTo, IsSameKind, taken_of}
use Rattle.userset_index.proofs.index.UsersetIndex.take_all.Given as goal

abbrev pub invariant-loop-touch : goal.invariant-loop-touch
invariant-loop-touch l = record {
  grown : IsGrownTo l.rules (taken_of (changelog l.chains.commits) l.self) l.self;
  few : length l.self.own_places ≤ length (changelog l.chains.commits);
  same : IsSameKind l.fn.self l.self;
}

abbrev pub decreases-loop-touch : goal.decreases-loop-touch
decreases-loop-touch l = length (changelog l.chains.commits) - length l.self.own_places
