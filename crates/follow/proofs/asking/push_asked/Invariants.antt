use Rattle.std.proofs.Common.{◌≡◌, ◌++◌, drop}
use Rattle.carry_laws.specs.Asked.{asked}
use Rattle.follow.proofs.asking.push_asked.Given as goal

-- those so far, and those of the rest
abbrev pub invariant-loop-finding : goal.invariant-loop-finding
invariant-loop-finding l =
    l.told.items ++ asked l.known l.trace (drop l.finding-index l.found) ≡ l.fn.told.items ++ asked l.known l.trace l.found
