use Rattle.std.proofs.Common.{refl, sym}
use Rattle.namespaces.proofs.Fields.{expression_in_force, expression_placed, none_placed}
use Rattle.namespaces.proofs.rules.Rules.body_place.Goals as goal

pub returns-in_err-revision : goal.returns-in_err-revision
returns-in_err-revision c =
    let r = c.args.set.relation.now in
    rw (c.from_residual.ensures, expression_in_force c.args.self.now c.args.at c.args.set.namespace.now r _ c.in_err-revision.ensures.well_formed.continued c.in_err-revision.ensures.relations) refl

pub returns-in_err-relations_in : goal.returns-in_err-relations_in
returns-in_err-relations_in c =
    let r = c.args.set.relation.now in
    rw (c.from_residual-in_err-relations_in.ensures, expression_in_force c.args.self.now c.args.at c.args.set.namespace.now r _ c.in_ok-revision.ensures.well_formed.continued c.in_ok-revision.ensures.relations, ← c.in_err-relations_in.ensures) refl

pub returns-in_err-relation : goal.returns-in_err-relation
returns-in_err-relation c =
    let r = c.args.set.relation.now in
    rw (c.from_residual-in_err-relation.ensures, expression_in_force c.args.self.now c.args.at c.args.set.namespace.now r _ c.in_ok-revision.ensures.well_formed.continued c.in_ok-revision.ensures.relations, ← c.in_ok-relations_in.ensures)
    (sym (none_placed r c.in_ok-relations_in.field-0.now.entries (sym c.in_err-relation.ensures.index)))

pub returns : goal.returns
returns c =
    let r = c.args.set.relation.now in
    rw (expression_in_force c.args.self.now c.args.at c.args.set.namespace.now r _ c.in_ok-revision.ensures.well_formed.continued c.in_ok-revision.ensures.relations, ← c.in_ok-relations_in.ensures)
    (expression_placed r c.in_ok-relations_in.field-0.now.entries c.in_ok-relation.relation (sym c.in_ok-relation.ensures.index))
