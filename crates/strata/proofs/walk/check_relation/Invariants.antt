use Rattle.std.proofs.Common.{◌≡◌}
use Rattle.strata.specs.Edges.{relation_edges, first_broken}
use Rattle.strata.specs.Sights.{reads}
use Rattle.strata.proofs.Walks.{edges_from}
use Rattle.strata.proofs.walk.check_relation.Given as goal

-- what decides are the rules that are left
abbrev pub invariant-loop-k : goal.invariant-loop-k
invariant-loop-k l =
    first_broken l.rules (relation_edges l.rules (reads l.sight) l.reader)
    ≡ first_broken l.rules (edges_from l.rules (reads l.sight) l.reader l.k)
