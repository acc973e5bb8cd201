use Rattle.std.proofs.Common.{◌≡◌, drop}
use Rattle.strata.specs.Edges.{first_broken, edges_of_tuples}
use Rattle.edge_checks.proofs.sample.check_all.Given as goal

-- what decides are the tuples that are left
abbrev pub invariant-loop-tuple : goal.invariant-loop-tuple
invariant-loop-tuple l =
    first_broken l.rules (edges_of_tuples l.rules l.tuples) ≡ first_broken l.rules (edges_of_tuples l.rules (drop l.tuple-index l.tuples))
