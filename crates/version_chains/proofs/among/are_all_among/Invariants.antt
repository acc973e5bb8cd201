use Rattle.std.proofs.Common.{◌≡◌}
use Rattle.std.specs.List.{list_all}
use Rattle.version_chains.specs.Among.{is_among}
use Rattle.version_chains.proofs.among.are_all_among.Given as goal

-- what is left decides
abbrev pub invariant-loop-set : goal.invariant-loop-set
invariant-loop-set l = list_all (is_among l.these) l.fn.sets ≡ list_all (is_among l.these) l.set-iterator
