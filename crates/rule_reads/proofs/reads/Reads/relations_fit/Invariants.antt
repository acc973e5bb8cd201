use Rattle.std.proofs.Common.{◌≡◌, ◌<◌, ℕ, Some}
use Rattle.namespaces.specs.Declaration.{Relation}
use Rattle.namespaces.specs.Lookup.{relation_numbered}
use Rattle.rule_reads.specs.Reads.{IsFitting, relation_number}
use Rattle.rule_reads.proofs.reads.Reads.relations_fit.Given as goal

abbrev pub invariant-loop-relation : goal.invariant-loop-relation
invariant-loop-relation l =
    (r : ℕ) (x : Relation) → l.known < r → r < l.relation → relation_numbered (relation_number l.number r) l.scope.rules.now ≡ Some x
    → IsFitting l.scope.rules.now l.self l.scope.kinds.now l.scope.tuples.now l.namespace x.name
