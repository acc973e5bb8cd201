use Rattle.rewrites.specs.View.{expression_of}
use Rattle.rewrites.proofs.AlikeLemmas.{contains_at}
use Rattle.rewrites.proofs.plain.stands_at.Goals as goal

pub returns-in-Some : goal.returns-in-Some
returns-in-Some c =
    let found = c.in-Some.ensures.lookup in
    λ same. contains_at c.args.kept.now c.args.place c.in-Some.one.now (expression_of c.args.child.now) found.3.0 found.1 (c.is_same.ensures same)
