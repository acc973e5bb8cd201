use Rattle.std.proofs.Common.{◌≡◌, ◌-◌, ◌≤◌, drop, length}
use Rattle.token_order.specs.Order.{commit_lines_of}
use Rattle.runs.specs.Alike.{commits_above}
use Rattle.runs.proofs.alike.first_above.Given as goal

-- none that was passed over is above
abbrev pub invariant-loop-first : goal.invariant-loop-first
invariant-loop-first l =
    (l.first ≤ length l.log.commits)
    × (commits_above l.base (drop l.first (commit_lines_of l.log)) ≡ commits_above l.base (commit_lines_of l.log))

abbrev pub decreases-loop-first : goal.decreases-loop-first
decreases-loop-first l = length l.log.commits - l.first
