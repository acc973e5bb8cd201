use Rattle.std.proofs.Common.{drop}
use Rattle.rewrites.specs.View.{expressions_of}
use Rattle.strata.specs.Edges.{all_places}
use Rattle.rule_reads.specs.Reads.{IsWider}
use Rattle.rule_reads.specs.declared.reads.Reads.{Reads}
use Rattle.rule_reads.proofs.reads.Reads.+take_rewrite.Given as goal

-- whatever takes the children that are left has taken all
abbrev pub invariant-take_children-loop-child : goal.invariant-take_children-loop-child
invariant-take_children-loop-child l =
    (z : Reads) → IsWider l.scope.rules.now l.scope.tuples.now l.reader.namespace.now l.reader.relation.now l.reader.stratum (all_places l.strict (expressions_of (drop l.child-index l.child-items))) l.self z
    → IsWider l.scope.rules.now l.scope.tuples.now l.reader.namespace.now l.reader.relation.now l.reader.stratum (all_places l.strict (expressions_of l.child-items)) l.fn.self z
