use Rattle.std.proofs.Common.{◌≡◌, drop}
use Rattle.std.specs.List.{filter_map}
use Rattle.rewrites.specs.View.{expressions_of}
use Rattle.strata.specs.Edges.{edge_at, all_places, first_broken}
use Rattle.strata.specs.Sights.{reads}
use Rattle.strata.proofs.walk.+check_rewrite.Given as goal

-- what decides are the places in the children that are left
abbrev pub invariant-check_children-loop-child : goal.invariant-check_children-loop-child
invariant-check_children-loop-child l =
    first_broken l.rules (filter_map (edge_at l.rules l.reader (reads l.sight)) (all_places l.strict (expressions_of l.child-items)))
    ≡ first_broken l.rules (filter_map (edge_at l.rules l.reader (reads l.sight)) (all_places l.strict (expressions_of (drop l.child-index l.child-items))))
