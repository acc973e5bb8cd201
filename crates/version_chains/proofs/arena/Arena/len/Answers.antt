use Rattle.std.proofs.Common.{subst}
use Rattle.version_chains.specs.Arena.{Held, AreApartAt}
use Rattle.version_chains.proofs.arena.Arena.len.Goals as goal

pub returns-clause-apart : goal.returns-clause-apart
returns-clause-apart c = subst (λ (h : Held). AreApartAt h.tuples) c.self.view_is c.self.invariant.0.apart
