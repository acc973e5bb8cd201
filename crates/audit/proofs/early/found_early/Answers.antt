use Rattle.std.proofs.Common.{false}
use Rattle.audit.specs.EarlyLines.{IsLineOf}
use Rattle.audit.proofs.EarlyLemmas.{begins_at}
use Rattle.audit.proofs.early.found_early.Goals as goal

pub invariant_of-teller : goal.invariant_of-teller
invariant_of-teller g c = record { told = begins_at (IsLineOf g.N.Names.gives g.N.Names.alerts) _ _ c.requires.begun }

pub returns-in_err-board-clause-early : goal.returns-in_err-board-clause-early
returns-in_err-board-clause-early g c =
    (false, begins_at (IsLineOf g.N.Names.gives g.N.Names.alerts) _ _ c.requires.begun)
