use Rattle.std.proofs.Common.{refl}
use Rattle.namespaces.proofs.Fields.{stratum_found}
use Rattle.namespaces.proofs.rules.Rules.stratum.Goals as goal

pub returns-in_err-relation : goal.returns-in_err-relation
returns-in_err-relation c =
    rw (c.from_residual-in_err-relation.ensures, ← c.in_ok-relations.ensures.relations, stratum_found c.args.set.relation.now c.in_ok-relations.relations.now.entries, ← c.in_err-relation.ensures.value) refl

pub returns : goal.returns
returns c = rw (← c.in_ok-relations.ensures.relations, stratum_found c.args.set.relation.now c.in_ok-relations.relations.now.entries, ← c.in_ok-relation.ensures.value) refl
