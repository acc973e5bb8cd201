use Rattle.std.proofs.Common.{◌↔◌}
use Rattle.std.specs.Prelude.{option_map}
use Rattle.judgement.specs.AskedFact.{BarsFor}
use Rattle.judgement.specs.Passes.{EachSet}
use Rattle.judgement.proofs.stored.bars_each.Given as goal

-- what is left decides
abbrev pub invariant-loop-set : goal.invariant-loop-set
invariant-loop-set g l =
    EachSet (BarsFor l.fact (option_map (λ s. s.now) l.relation)) l.set-iterator
    ↔ EachSet (BarsFor l.fact (option_map (λ s. s.now) l.relation)) l.fn.sets
