use Rattle.marks.specs.Marks.{pair_mark}
use Rattle.marks.specs.Words.{hash_of}
use Rattle.marks.proofs.tuples.pair_mark.Goals as goal

pub returns : goal.returns
unfolding pair_mark hash_of
returns c = simp (c.finish.ensures, c.with.ensures, c.keyed.ensures)
