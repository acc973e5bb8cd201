use Rattle.std.proofs.Common.{◌≡◌, ◌+◌, ◌-◌, length}
use Rattle.monitor.specs.SoFar.{TellsMore}
use Rattle.monitor.specs.Standing.{Stands}
use Rattle.monitor.proofs.whole.tell_further.Given as goal

abbrev pub invariant-loop : goal.invariant-loop
invariant-loop g l =
    Stands l.fn.trace l.monitor × (g.J.Judge.of l.judge ≡ g.J.Judge.of l.fn.judge)
    × TellsMore g.J.Judge.allows l.fn.trace l.fn.monitor l.monitor l.fn.told.items l.told.items

abbrev pub decreases-loop : goal.decreases-loop
decreases-loop g l =
    (length l.fn.trace.entries - l.monitor.entries) + (length l.fn.trace.commits - l.monitor.commits)
