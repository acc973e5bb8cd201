use Rattle.std.proofs.Common.{◌∙◌}
use Rattle.version_chains.specs.Commits.{changelog}
use Rattle.userset_index.proofs.GrowthLemmas.{begun_ready, begun_whole, whole_of_taken}
use Rattle.userset_index.proofs.index.UsersetIndex.grow_further.Goals as goal

pub returns-then-not-self-clause-grows : goal.returns-then-not-self-clause-grows
returns-then-not-self-clause-grows c grows =
    begun_ready c.args.rules.now (changelog c.args.chains.now.commits) c.begin.new.self
    (c.begin.ensures c.args.rules.now (changelog c.args.chains.now.commits) c.requires)

pub take_all-requires-clause-grown : goal.take_all-requires-clause-grown
take_all-requires-clause-grown c = (c.begin.ensures c.args.rules.now (changelog c.args.chains.now.commits) c.requires).grown

pub take_all-requires-clause-few : goal.take_all-requires-clause-few
take_all-requires-clause-few c = (c.begin.ensures c.args.rules.now (changelog c.args.chains.now.commits) c.requires).few

pub returns-in-Ok-clause-index : goal.returns-in-Ok-clause-index
returns-in-Ok-clause-index c whole =
    let ready = c.begin.ensures c.args.rules.now (changelog c.args.chains.now.commits) c.requires in
    whole_of_taken c.args.rules.now c.args.chains.now.commits c.take_all.new.self c.in-Ok.ensures.grown c.in-Ok.ensures.all
    (c.in-Ok.ensures.same.timed ∙ ready.untimed)

pub returns-in-Ok-clause-grows : goal.returns-in-Ok-clause-grows
returns-in-Ok-clause-grows c grows =
    let ready = c.begin.ensures c.args.rules.now (changelog c.args.chains.now.commits) c.requires in
    begun_whole c.args.rules.now (changelog c.args.chains.now.commits) c.take_all.new.self
    (c.in-Ok.ensures.same.declared ∙ ready.declared) c.in-Ok.ensures.grown c.in-Ok.ensures.all
    (c.in-Ok.ensures.same.timed ∙ ready.untimed)
