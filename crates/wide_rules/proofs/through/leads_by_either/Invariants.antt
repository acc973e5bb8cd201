use Rattle.std.proofs.Common.{◌↔◌, length}
use Rattle.rewrites.specs.Parts.{computed_names}
use Rattle.judgement.specs.Passes.{SomeSet}
use Rattle.wide_rules.specs.AskedFact.{GivesUnder, LeadsUnder}
use Rattle.wide_rules.proofs.through.leads_by_either.Given as goal

-- what is left of both decides
abbrev pub invariant-loop-target : goal.invariant-loop-target
invariant-loop-target g l = record {
  stored : SomeSet (GivesUnder l.fact (computed_names l.through)) l.stored
      ↔ SomeSet (GivesUnder l.fact (computed_names l.through)) l.fn.stored;
  targets : SomeSet (LeadsUnder l.fact (computed_names l.through)) l.targets
      ↔ SomeSet (LeadsUnder l.fact (computed_names l.through)) l.fn.targets;
}

abbrev pub decreases-loop-target : goal.decreases-loop-target
decreases-loop-target g l = length l.targets
