use Rattle.std.proofs.Common.{◌↔◌}
use Rattle.rewrites.specs.Parts.{computed_names}
use Rattle.judgement.specs.Passes.{EachSet}
use Rattle.wide_rules.specs.AskedFact.{BarsUnder, IsBarredBy}
use Rattle.wide_rules.proofs.through.are_barred_set_by_set.Given as goal

-- what is left decides
abbrev pub invariant-loop-set : goal.invariant-loop-set
invariant-loop-set g l =
    EachSet (BarsUnder l.fact (computed_names l.through)) l.set-iterator ↔ IsBarredBy l.fact (computed_names l.through)
