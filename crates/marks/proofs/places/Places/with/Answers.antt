use Rattle.std.proofs.Common.{length, nat_eq}
use Rattle.marks.proofs.IndexLemmas.{indices_from}
use Rattle.marks.proofs.WalkLemmas.{linked_newest}
use Rattle.marks.proofs.places.Places.with.Goals as goal

pub invariant_of-result : goal.invariant_of-result
invariant_of-result c = linked_newest (nat_eq c.args.mark) c.args.self.now c.newest.result c.newest.ensures

pub returns : goal.returns
returns c = indices_from c.args.mark c.args.self.now c.newest.result (length c.args.self.now) c.newest.ensures
