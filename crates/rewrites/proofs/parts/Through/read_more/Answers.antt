use Rattle.rewrites.proofs.PartLemmas.{more_shown, put_shown}
use Rattle.rewrites.proofs.parts.Through.read_more.Goals as goal

pub returns-clause-put : goal.returns-clause-put
returns-clause-put c =
    put_shown c.args.self.now.tupleset c.args.self.now.computed c.put.new.self c.in_ok-clone.field-0 _ c.in_ok-clone.ensures.cases c.put.result c.put.ensures.new c.put.ensures.put c.put.ensures.there

pub returns-clause-more : goal.returns-clause-more
returns-clause-more c =
    more_shown c.args.self.now.tupleset c.args.self.now.computed c.put.new.self c.in_ok-clone.field-0 _ c.in_ok-clone.ensures.cases c.put.result c.put.ensures.put c.put.ensures.there
