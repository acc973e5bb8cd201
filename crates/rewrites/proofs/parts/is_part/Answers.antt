use Rattle.std.proofs.Common.{rules, ◌≡◌, length, refl, ◌∙◌}
use Rattle.std.proofs.lemmas.Option.{slice_get_read}
use Rattle.rewrites.specs.Parts.{part_expression}
use Rattle.rewrites.specs.View.{expression_of}
use Rattle.rewrites.proofs.parts.is_part.Goals as goal

pub returns-in-Some-Leaf : goal.returns-in-Some-Leaf
returns-in-Some-Leaf c =
    let found = c.in-Some-Leaf.ensures.lookup in
    let part = c.in-Some-Leaf.field-0.now in
    let leaf : part_expression part ≡ expression_of c.in-Some-Leaf.one = rw c.in-Some-Leaf.field-0-is (search rules) in
    λ same. (
      part,
      slice_get_read c.args.parts.now (length c.args.parts.now) c.args.number part refl found.3.0 found.1,
      leaf ∙ c.is_same.ensures same,
    )
