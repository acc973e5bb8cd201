use Rattle.std.proofs.Common.{◌-◌, suc, length}
use Rattle.strata.specs.Edges.{relations_in, last_relation_edges, last_edges}
use Rattle.strata.specs.Sights.{reads}
use Rattle.strata.proofs.Walks.{AreFromNumber}
use Rattle.strata.proofs.check.check_last_rules.Given as goal

abbrev pub invariant-loop-rewrite : goal.invariant-loop-rewrite
invariant-loop-rewrite l =
    AreFromNumber l.rules (last_relation_edges l.rules (reads l.sight))
    (last_edges l.rules (reads l.sight) l.namespace) l.namespace l.number

abbrev pub decreases-loop-rewrite : goal.decreases-loop-rewrite
decreases-loop-rewrite l = suc (length (relations_in l.rules l.namespace)) - l.number.relation
