use Rattle.std.proofs.Common.{◌≡◌}
use Rattle.std.specs.List.{list_any}
use Rattle.version_chains.specs.Among.{is_among}
use Rattle.version_chains.proofs.among.is_any_among.Given as goal

-- what is left decides
abbrev pub invariant-loop-set : goal.invariant-loop-set
invariant-loop-set l = list_any (is_among l.these) l.fn.sets ≡ list_any (is_among l.these) l.set-iterator
