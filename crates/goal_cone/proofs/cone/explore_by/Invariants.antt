use Rattle.std.specs.Prelude.{◌≡◌}
use Rattle.snapshots.specs.Snapshots.{rules_in, tuples_in}
use Rattle.goal_cone.specs.Pass.{IsSearching}
use Rattle.goal_cone.proofs.cone.explore_by.Given as goal

abbrev pub invariant-loop-next : goal.invariant-loop-next
invariant-loop-next l =
    IsSearching 4194304 (rules_in l.snapshot) (tuples_in l.snapshot) l.goal l.seen l.next l.room
    × (l.leaves.declarations ≡ l.fn.leaves.declarations)
