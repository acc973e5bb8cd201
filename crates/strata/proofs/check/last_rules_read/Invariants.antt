use Rattle.std.proofs.Common.{◌≡◌, ◌-◌, ◌≤◌, ℕ, suc, length, List}
use Rattle.tuple_text.specs.Sets.{SetValue}
use Rattle.strata.specs.Edges.{relations_in, last_relation_edges, last_edges, first_broken, read_through}
use Rattle.strata.proofs.Walks.{relations_from}
use Rattle.strata.proofs.check.last_rules_read.Given as goal

-- what decides are the relations that are left
abbrev pub invariant-loop-rewrite : goal.invariant-loop-rewrite
invariant-loop-rewrite l = record {
  number : l.number.namespace ≡ l.namespace;
  least : 1 ≤ l.number.relation;
  left : (r : List ℕ) (g : SetValue) → first_broken l.rules (last_edges l.rules (read_through r g) l.namespace)
      ≡ first_broken l.rules (relations_from l.rules (last_relation_edges l.rules (read_through r g)) l.namespace l.number.relation);
}

abbrev pub decreases-loop-rewrite : goal.decreases-loop-rewrite
decreases-loop-rewrite l = suc (length (relations_in l.rules l.namespace)) - l.number.relation
