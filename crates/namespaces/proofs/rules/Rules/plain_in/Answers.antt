use Rattle.namespaces.proofs.rules.Rules.plain_in.Goals as goal

pub returns : goal.returns
returns c = rw (← c.in_ok-relation.ensures) c.in_ok-relation.relation.now.plain_of
