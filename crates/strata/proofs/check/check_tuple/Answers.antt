use Rattle.strata.proofs.check.check_tuple.Goals as goal

pub returns : goal.returns
returns c = rw (← c.in-Set.ensures.parts, ← c.set.ensures.parts) c.check_user.ensures
