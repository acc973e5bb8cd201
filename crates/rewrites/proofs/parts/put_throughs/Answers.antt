use Rattle.std.proofs.Common.{rules, ◌≡◌, ◌∷◌, ◌++◌, []}
use Rattle.std.proofs.lemmas.List.{append-nil}
use Rattle.rewrites.specs.Parts.{parts_shown}
use Rattle.rewrites.proofs.PartLemmas.{grown_then, last_node}
use Rattle.rewrites.proofs.parts.put_throughs.Goals as goal

pub loop-through-preserved : goal.loop-through-preserved
loop-through-preserved c =
    let start = parts_shown c.args.numbering.now.parts.items in
    let old = parts_shown c.loop-through.numbering.parts.items in
    let new = parts_shown c.push.new.self.parts.items in
    let left : c.loop-through.left.items ≡ c.pop.new.self.items ++ c.in-Some.through ∷ [] = search rules in (
      grown_then start old new c.loop-through.invariant.0 c.in_ok-part.ensures.grown,
      rw c.in_ok-push.ensures.items
          (last_node old new c.loop-through.nodes.items c.args.nodes.now.items c.pop.new.self.items c.args.throughs.items c.in-Some.through c.in_ok-part.part
          c.in_ok-part.ensures (rw left at c.loop-through.invariant.1)),
    )

pub returns-clause-joined : goal.returns-clause-joined
returns-clause-joined c = λ more.
    let none : c.loop-through.left.items ≡ [] = search rules in
    rw (none, append-nil) at (c.loop-through.invariant.1 more)
