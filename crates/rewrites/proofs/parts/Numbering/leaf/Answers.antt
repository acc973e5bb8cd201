use Rattle.rewrites.specs.View.{expression_of}
use Rattle.rewrites.proofs.PartLemmas.{part_stands}
use Rattle.rewrites.proofs.parts.Numbering.leaf.Goals as goal

pub returns-then-is_part : goal.returns-then-is_part
returns-then-is_part c =
    let found = c.is_part.ensures c.if-is_part.true in
    part_stands c.args.self.now.parts.items c.in-Some.number found.0 (expression_of c.args.leaf.now) (rw c.deref.ensures.value at found.1) found.2
