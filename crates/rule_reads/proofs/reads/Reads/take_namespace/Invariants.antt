use Rattle.std.proofs.Common.{◌≡◌, ◌<◌, ℕ, Some, false}
use Rattle.namespaces.specs.Declaration.{Relation}
use Rattle.namespaces.specs.Lookup.{relation_numbered}
use Rattle.strata.specs.Edges.{places}
use Rattle.rule_reads.specs.Reads.{IsGrown, AreRead, relation_number}
use Rattle.rule_reads.proofs.reads.Reads.take_namespace.Given as goal

abbrev pub invariant-loop-relation : goal.invariant-loop-relation
invariant-loop-relation l = record {
  grown : IsGrown l.scope.rules.now l.scope.tuples.now l.fn.self l.self;
  read : (r : ℕ) (x : Relation) → r < l.relation → relation_numbered (relation_number l.number r) l.scope.rules.now ≡ Some x → AreRead l.self l.namespace x.name x.stratum (places false x.expression);
}
