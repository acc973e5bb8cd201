use Rattle.std.proofs.Common.{◌≡◌, ◌+◌, ◌*◌, map, drop}
use Rattle.serde_json.specs.Data.{depth}
use Rattle.serde_json.specs.View.{view, items_view}
use Rattle.rewrites.specs.View.{expression_of}
use Rattle.namespaces.specs.Shape.{expressions}
use Rattle.namespaces.proofs.Shapes.{after}
use Rattle.namespaces.proofs.reading.+reading.Given as goal

-- each call is given a value that lies inside, but for those of `expression_at` in `exclusion`
abbrev pub decreases-expression : goal.decreases-expression
decreases-expression l = 2 * depth (view l.value.now)

abbrev pub decreases-exclusion : goal.decreases-exclusion
decreases-exclusion l = 2 * depth (view l.value.now) + 1

abbrev pub decreases-expression_at : goal.decreases-expression_at
decreases-expression_at l = 2 * depth (view l.value.now)

abbrev pub decreases-child_list : goal.decreases-child_list
decreases-child_list l = 2 * depth (view l.value.now)

-- the rules read so far, and those of the values that are left
abbrev pub invariant-child_list-loop-value : goal.invariant-child_list-loop-value
invariant-child_list-loop-value l = after (map expression_of l.rules.items) (expressions (items_view (drop l.value-index l.value-items))) ≡ expressions (items_view l.value-items)
