use Rattle.std.proofs.Common.{refl}
use Rattle.namespaces.proofs.Fields.{expression_borrowed, expression_found, expression_in_force}
use Rattle.namespaces.proofs.rules.Rules.declared_at.Goals as goal

pub returns-in_err-relations : goal.returns-in_err-relations
returns-in_err-relations c =
    let r = c.args.set.relation.now in
    rw (c.from_residual.ensures, expression_in_force c.args.self.now c.args.at c.args.set.namespace.now r _ c.in_err-relations.ensures.well_formed.continued c.in_err-relations.ensures.relations) refl

pub returns : goal.returns
returns c =
    let r = c.args.set.relation.now in
    rw (expression_in_force c.args.self.now c.args.at c.args.set.namespace.now r _ c.in_ok-relations.ensures.well_formed.continued c.in_ok-relations.ensures.relations, expression_found r c.in_ok-relations.relations.now.entries, ← c.get.ensures.value)
    (expression_borrowed c.get.result)
