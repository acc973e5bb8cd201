use Rattle.std.proofs.Common.{◌≡◌, ℕ, List, ◌++◌, length}
use Rattle.monitor.specs.Telling.{TellsOfEach, moment_of}
use Rattle.monitor.proofs.monitor.tell_each.Given as goal

abbrev pub invariant-loop-i : goal.invariant-loop-i
invariant-loop-i g l =
    (done : List ℕ) × (l.fn.due.keys ≡ done ++ l.due.keys)
    × TellsOfEach g.J.Judge.allows l.fn.trace (moment_of l.fn.trace l.fn.commit) done l.fn.told.items l.told.items
    × (g.J.Judge.of l.judge ≡ g.J.Judge.of l.fn.judge)

abbrev pub decreases-loop-i : goal.decreases-loop-i
decreases-loop-i g l = length l.due.keys
