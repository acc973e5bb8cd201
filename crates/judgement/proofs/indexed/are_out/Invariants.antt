use Rattle.std.specs.Prelude.{option_map, All}
use Rattle.judgement.specs.AskedFact.{IsOutFor}
use Rattle.judgement.proofs.indexed.are_out.Given as goal

-- what is left decides
abbrev pub invariant-loop-touch : goal.invariant-loop-touch
invariant-loop-touch g l =
    All (IsOutFor l.fact (option_map (λ s. s.now) l.relation)) l.touch-iterator
    → All (IsOutFor l.fact (option_map (λ s. s.now) l.relation)) l.fn.touches
