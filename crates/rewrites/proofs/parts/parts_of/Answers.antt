use Rattle.std.proofs.Common.{[]}
use Rattle.std.proofs.lemmas.List.{append-nil}
use Rattle.rewrites.proofs.parts.parts_of.Goals as goal

pub returns : goal.returns
returns c = rw append-nil at (c.in_ok-top.ensures.alike [])
