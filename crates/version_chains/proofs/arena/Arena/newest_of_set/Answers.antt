use Rattle.std.proofs.Common.{subst}
use Rattle.version_chains.specs.Arena.{Held, AreApartAt, latest_of, tuples_of}
use Rattle.version_chains.specs.Given.{AreTouchesKnown}
use Rattle.version_chains.proofs.ArenaLemmas.{touches_known}
use Rattle.version_chains.proofs.arena.Arena.newest_of_set.Goals as goal

pub returns-clause-apart : goal.returns-clause-apart
returns-clause-apart c = subst (λ (h : Held). AreApartAt h.tuples) c.self.view_is c.self.invariant.0.apart

pub returns-clause-known : goal.returns-clause-known
returns-clause-known c =
    subst AreTouchesKnown c.self.view_is
    (touches_known (tuples_of c.self.inside.rows) (latest_of c.self.inside.rows) c.self.inside.named c.self.inside.held c.self.inside.nodes.items c.self.invariant.0)
