use Rattle.std.proofs.Common.{refl}
use Rattle.namespaces.proofs.Fields.{position-relations}
use Rattle.namespaces.proofs.rules.Rules.number.Goals as goal

pub returns-in_err-relation : goal.returns-in_err-relation
returns-in_err-relation c =
    rw (c.from_residual-in_err-relation.ensures, ← c.in_ok-namespace.ensures, ← c.in_ok-newest.ensures.relations, position-relations c.args.set.relation.now c.in_ok-newest.field-0.now.entries, ← c.in_err-relation.ensures.index) refl

pub returns : goal.returns
returns c =
    rw (← c.in_ok-namespace.ensures, ← c.in_ok-newest.ensures.relations, position-relations c.args.set.relation.now c.in_ok-newest.field-0.now.entries, ← c.in_ok-relation.ensures.index) refl
