use Rattle.strata.proofs.check.reads_tuplesets.Goals as goal

pub returns-in-Some : goal.returns-in-Some
returns-in-Some c none r g = rw (← c.in-Some.ensures) (c.last_rules_read.ensures none r g)
