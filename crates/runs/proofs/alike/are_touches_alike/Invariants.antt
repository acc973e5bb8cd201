use Rattle.std.proofs.Common.{◌≡◌, drop}
use Rattle.version_chains.specs.Commits.{changelog}
use Rattle.runs.specs.Alike.{touches_above}
use Rattle.runs.proofs.alike.are_touches_alike.Given as goal

-- where the rest is alike, all is
abbrev pub invariant-loop-i : goal.invariant-loop-i
invariant-loop-i l =
    touches_above l.base (drop l.i (changelog l.log.commits)) ≡ touches_above l.base (drop l.j (changelog l.other.commits))
    → touches_above l.base (changelog l.log.commits) ≡ touches_above l.base (changelog l.other.commits)
