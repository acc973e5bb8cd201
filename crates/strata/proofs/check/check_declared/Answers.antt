use Rattle.std.proofs.Common.{sym, ◌∙◌}
use Rattle.strata.proofs.LastDeclared.{last_decides}
use Rattle.strata.proofs.Newest.{newest_decides}
use Rattle.strata.proofs.check.check_declared.Goals as goal

pub returns-in-Some-clause-exact : goal.returns-in-Some-clause-exact
returns-in-Some-clause-exact c = rw (← c.namespace_number.ensures, c.in-Some.is) c.check_last_rules.ensures.edges

pub returns-in-Some-clause-first : goal.returns-in-Some-clause-first
returns-in-Some-clause-first c ds d are named none =
    c.check_last_rules.ensures.edges
    ∙ last_decides c.args.rules.now ds d c.args.namespace.now _ c.check_last_rules.ensures.well_formed (sym c.in-Some.ensures) are named none

pub returns-in-None-clause-first : goal.returns-in-None-clause-first
returns-in-None-clause-first c ds d are named none =
    rw (← c.namespace_number.ensures, c.in-None.is) at (newest_decides c.args.rules.now ds d c.args.namespace.now are named none)
