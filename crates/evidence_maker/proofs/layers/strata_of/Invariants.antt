use Rattle.std.proofs.Common.{◌≡◌, ◌++◌, drop, map}
use Rattle.snapshots.specs.Snapshots.{rules_in}
use Rattle.evidence_maker.specs.Making.{stratum_of}
use Rattle.evidence_maker.proofs.layers.strata_of.Given as goal

-- what is left decides
abbrev pub invariant-loop-fact : goal.invariant-loop-fact
invariant-loop-fact l = l.strata.items ++ map (stratum_of (rules_in l.snapshot)) (drop l.fact-index l.facts) ≡ map (stratum_of (rules_in l.snapshot)) l.facts
