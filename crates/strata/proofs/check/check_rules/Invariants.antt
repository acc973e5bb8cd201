use Rattle.std.proofs.Common.{◌≡◌, ◌-◌, ◌≤◌, suc, length}
use Rattle.namespaces.specs.Lookup.{namespace_names}
use Rattle.strata.specs.Edges.{rule_edges, first_broken}
use Rattle.strata.proofs.Walks.{namespaces_from}
use Rattle.strata.proofs.check.check_rules.Given as goal

-- what decides are the namespaces that are left
abbrev pub invariant-loop-namespace : goal.invariant-loop-namespace
invariant-loop-namespace l = record {
  least : 1 ≤ l.number;
  left : first_broken l.rules (rule_edges l.rules) ≡ first_broken l.rules (namespaces_from l.rules l.number);
}

abbrev pub decreases-loop-namespace : goal.decreases-loop-namespace
decreases-loop-namespace l = suc (length (namespace_names l.rules)) - l.number
