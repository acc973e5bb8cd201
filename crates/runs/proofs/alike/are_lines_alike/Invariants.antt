use Rattle.std.proofs.Common.{◌≡◌, ◌+◌, drop}
use Rattle.token_order.specs.Order.{commit_lines_of}
use Rattle.runs.specs.Alike.{commits_above}
use Rattle.runs.proofs.alike.are_lines_alike.Given as goal

-- where the rest is alike, all is
abbrev pub invariant-loop-k : goal.invariant-loop-k
invariant-loop-k l =
    commits_above l.base (drop (l.i + l.k) (commit_lines_of l.log)) ≡ commits_above l.base (drop (l.j + l.k) (commit_lines_of l.other))
    → commits_above l.base (commit_lines_of l.log) ≡ commits_above l.base (commit_lines_of l.other)
