use Rattle.namespaces.proofs.InForceLemmas.{whole_in_force}
use Rattle.namespaces.proofs.rules.Rules.count_in_force.Goals as goal

pub returns-in-Some-clause-whole : goal.returns-in-Some-clause-whole
returns-in-Some-clause-whole c = λ r h.
    whole_in_force c.args.self.now c.args.at c.args.namespace.now r c.in-Some.ensures.well_formed h

pub returns-in-None-clause-whole : goal.returns-in-None-clause-whole
returns-in-None-clause-whole c = λ r h.
    whole_in_force c.args.self.now c.args.at c.args.namespace.now r c.in-None.ensures.well_formed h
