use Rattle.std.proofs.Common.{◌≡◌}
use Rattle.wide_rules.proofs.paths.Paths.lead.Given as goal

-- the paths are those of before
abbrev pub invariant-loop-k : goal.invariant-loop-k
invariant-loop-k l = l.self ≡ l.fn.self
