use Rattle.std.proofs.Common.{rules, ◌≡◌, ◌++◌, ◌∷◌, ◌∙◌, [], map, ap, sym, arith}
use Rattle.std.proofs.lemmas.Grind.{common_steps}
use Rattle.std.proofs.lemmas.List.{append_assoc, append-nil, map-append}
use Rattle.std.specs.Vec.Iter.{into_iter_items}
use Rattle.rewrites.specs.Parts.{parts_shown}
use Rattle.rewrites.specs.declared.parts.Part.{Part}
use Rattle.strata.proofs.Lists.{not_in_nil}
use Rattle.goal_cone.specs.declared.leaves.ReadPart.{ReadPart}
use Rattle.goal_cone.proofs.OnceLemmas.{one_noted_more}
use Rattle.goal_cone.proofs.leaves.each_noted.Goals as goal

abbrev part_of : ReadPart → Part
part_of r = r.part

pub loop-part-init : goal.loop-part-init
loop-part-init c =
    let same : into_iter_items c.into_iter-part-iterator.result ≡ c.args.parts.items = search rules in
    let none : c.new-read.result.items ≡ [] = search rules in
    rw none (same, λ r there. absurd (not_in_nil r there))

pub loop-part-preserved : goal.loop-part-preserved
loop-part-preserved c =
    let left : into_iter_items c.loop-part.part-iterator ≡ c.in-Some.part ∷ into_iter_items c.next.new.self = search rules in
    let r = c.in_ok-part.part in
    let one_more : c.push.new.self.items ≡ c.loop-part.read.items ++ r ∷ [] = search rules in
    let rest = into_iter_items c.next.new.self in
    rw one_more (
      rw (map-append part_of c.loop-part.read.items (r ∷ []), append_assoc (map part_of c.loop-part.read.items) (part_of r ∷ []) rest, c.in_ok-part.ensures.part)
          (rw left at c.loop-part.invariant.0),
      one_noted_more c.args.rules.now c.loop-part.read.items r c.loop-part.invariant.1 c.in_ok-part.ensures.noted,
    )

pub returns-clause-shown : goal.returns-clause-shown
returns-clause-shown c =
    let left : into_iter_items c.loop-part.part-iterator ≡ [] = grind (arith, common_steps, c.in-None.ensures.steps) in
    let all : map part_of c.loop-part.read.items ++ [] ≡ c.args.parts.items = rw left at c.loop-part.invariant.0 in
    let same : map part_of c.loop-part.read.items ≡ c.args.parts.items = sym (append-nil (map part_of c.loop-part.read.items)) ∙ all in
    ap parts_shown same
