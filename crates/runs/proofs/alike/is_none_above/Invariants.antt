use Rattle.std.proofs.Common.{◌≡◌, drop}
use Rattle.version_chains.specs.Commits.{changelog}
use Rattle.runs.specs.Alike.{touches_above}
use Rattle.runs.proofs.alike.is_none_above.Given as goal

-- none that was passed over is above
abbrev pub invariant-loop-i : goal.invariant-loop-i
invariant-loop-i l =
    touches_above l.base (drop l.from (changelog l.chains.commits)) ≡ touches_above l.base (drop l.i (changelog l.chains.commits))
