use Rattle.std.specs.Prelude.{◌≡◌, ◌++◌, Contains, map}
use Rattle.std.specs.Vec.Iter.{into_iter_items}
use Rattle.goal_cone.specs.Leaves.{IsNoted}
use Rattle.goal_cone.specs.declared.leaves.ReadPart.{ReadPart}
use Rattle.goal_cone.proofs.leaves.each_noted.Given as goal

-- what is there and what is to come
abbrev pub invariant-loop-part : goal.invariant-loop-part
invariant-loop-part l =
    (map (λ r. r.part) l.read.items ++ into_iter_items l.part-iterator ≡ l.fn.parts.items) × ((r : ReadPart) → Contains l.read.items r → IsNoted l.rules r)
