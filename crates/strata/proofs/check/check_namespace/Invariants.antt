use Rattle.std.proofs.Common.{◌-◌, suc, length}
use Rattle.strata.specs.Edges.{relation_edges, relations_in, namespace_edges}
use Rattle.strata.specs.Sights.{reads}
use Rattle.strata.proofs.Walks.{AreFromNumber}
use Rattle.strata.proofs.check.check_namespace.Given as goal

abbrev pub invariant-loop-number : goal.invariant-loop-number
invariant-loop-number l =
    AreFromNumber l.rules (relation_edges l.rules (reads l.sight))
    (namespace_edges l.rules (reads l.sight) l.namespace) l.namespace l.number

abbrev pub decreases-loop-number : goal.decreases-loop-number
decreases-loop-number l = suc (length (relations_in l.rules l.namespace)) - l.number.relation
