use Rattle.std.proofs.Common.{◌↔◌}
use Rattle.std.specs.Prelude.{option_map}
use Rattle.judgement.specs.AskedFact.{GivesFor, asked_set, tuples_over}
use Rattle.judgement.specs.Passes.{IsTargetStored, SomeSet}
use Rattle.judgement.proofs.leading.leads_either.Given as goal

-- what is left of both decides
abbrev pub invariant-loop-target : goal.invariant-loop-target
invariant-loop-target g l = record {
  stored : SomeSet (GivesFor l.fact (option_map (λ s. s.now) l.relation)) l.stored
      ↔ SomeSet (GivesFor l.fact (option_map (λ s. s.now) l.relation)) l.fn.stored;
  targets : SomeSet (IsTargetStored (tuples_over l.fact) (asked_set l.fact) (option_map (λ s. s.now) l.relation)) l.target-iterator
      ↔ SomeSet (IsTargetStored (tuples_over l.fact) (asked_set l.fact) (option_map (λ s. s.now) l.relation)) l.fn.targets;
}
