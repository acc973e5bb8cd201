use Rattle.std.proofs.Common.{◌≤◌, ◌-◌, length}
use Rattle.version_chains.specs.Commits.{changelog}
use Rattle.userset_index.specs.Building.{AreLastAmong, HaveEnds}
use Rattle.userset_index.proofs.build.ends_of.Given as goal

abbrev pub invariant-loop-touch : goal.invariant-loop-touch
invariant-loop-touch l = record {
  within : length l.ends.items ≤ length (changelog l.chains.commits);
  each : HaveEnds (changelog l.chains.commits) l.ends.items;
  last : AreLastAmong (length l.ends.items) (changelog l.chains.commits) l.ends.items;
}

abbrev pub decreases-loop-touch : goal.decreases-loop-touch
decreases-loop-touch l = length (changelog l.chains.commits) - length l.ends.items
