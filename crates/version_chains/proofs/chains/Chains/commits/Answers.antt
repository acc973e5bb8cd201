use Rattle.std.proofs.Common.{subst, ◌∙◌, ap, sym, map}
use Rattle.std.specs.Prelude.{All}
use Rattle.version_chains.specs.Commits.{TouchesOnce, Changes}
use Rattle.version_chains.proofs.ApartLemmas.{touch-once}
use Rattle.version_chains.proofs.CommitLemmas.{times_of}
use Rattle.version_chains.proofs.chains.Chains.commits.Goals as goal

pub returns-clause-times : goal.returns-clause-times
returns-clause-times c = c.as_slice.ensures.value ∙ sym (times_of c.self.inside.times.items c.self.inside.arena.touches) ∙ ap (λ (v : Changes). map (λ c. c.at) v.commits) c.self.view_is

pub returns-clause-apart : goal.returns-clause-apart
returns-clause-apart c = subst (λ (v : Changes). All TouchesOnce v.commits) c.self.view_is (touch-once _ c.self.invariant.apart)
