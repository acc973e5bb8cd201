use Rattle.std.proofs.Common.{rules, ◌≡◌, ◌∷◌, [], map, arith}
use Rattle.std.proofs.lemmas.Grind.{common_steps}
use Rattle.std.specs.Vec.Iter.{into_iter_items}
use Rattle.rewrites.specs.Leaves.{leaves_in}
use Rattle.rewrites.specs.Parts.{parts_shown}
use Rattle.rewrites.specs.Plain.{leaves}
use Rattle.rewrites.specs.View.{expression_of}
use Rattle.rewrites.proofs.LeavesLemmas.{collects_done, collects_on}
use Rattle.rewrites.proofs.ThinnedLemmas.{thinned_itself}
use Rattle.goal_cone.proofs.leaves.parts_of.Goals as goal

pub loop-leaf-init : goal.loop-leaf-init
loop-leaf-init c =
    let same : into_iter_items c.into_iter-leaf-iterator.result ≡ c.args.leaves.items = search rules in
    let none : c.new-parts.result.items ≡ [] = search rules in
    rw (same, none) (thinned_itself (leaves_in (map expression_of c.args.leaves.items)))

pub loop-leaf-preserved : goal.loop-leaf-preserved
loop-leaf-preserved c =
    let left : into_iter_items c.loop-leaf.leaf-iterator ≡ c.in-Some.leaf ∷ into_iter_items c.next.new.self = search rules in
    collects_on (parts_shown c.loop-leaf.parts.items) (parts_shown c.put.new.parts.items) (leaves (expression_of c.in-Some.leaf))
    (leaves_in (map expression_of (into_iter_items c.next.new.self))) (leaves_in (map expression_of c.args.leaves.items)) c.in_ok-put.ensures
    (rw left at c.loop-leaf.invariant)

pub returns : goal.returns
returns c =
    let left : into_iter_items c.loop-leaf.leaf-iterator ≡ [] = grind (arith, common_steps, c.in-None.ensures.steps) in
    collects_done (parts_shown c.loop-leaf.parts.items) (leaves_in (map expression_of c.args.leaves.items)) (rw left at c.loop-leaf.invariant)
