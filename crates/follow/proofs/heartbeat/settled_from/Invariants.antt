use Rattle.std.proofs.Common.{◌-◌, ◌≤◌, length}
use Rattle.follow.specs.Heartbeats.{AreSettledTo}
use Rattle.follow.proofs.heartbeat.settled_from.Given as goal

abbrev pub invariant-loop-n : goal.invariant-loop-n
invariant-loop-n l = record {
  settled : AreSettledTo l.fn.trace l.n;
  within : l.n ≤ length l.fn.trace.entries;
}

abbrev pub decreases-loop-n : goal.decreases-loop-n
decreases-loop-n l = length l.fn.trace.entries - l.n
