use Rattle.std.proofs.Common.{◌≡◌, take, map}
use Rattle.namespaces.specs.Lookup.{Lookup}
use Rattle.evidence_maker.specs.Making.{AreThose, HasStratum, stratum_of}
use Rattle.evidence_maker.proofs.layers.layer_of.Given as goal

abbrev pub invariant-loop-place : goal.invariant-loop-place
invariant-loop-place l = (rules : Lookup) → l.strata ≡ map (stratum_of rules) l.facts → AreThose (HasStratum rules l.stratum) (take l.place l.facts) l.layer.items
