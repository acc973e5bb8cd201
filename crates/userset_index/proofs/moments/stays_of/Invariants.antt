use Rattle.version_chains.specs.Commits.{changelog}
use Rattle.userset_index.specs.Moments.{HoldsStaysFirst}
use Rattle.userset_index.proofs.moments.stays_of.Given as goal

abbrev pub invariant-loop-index : goal.invariant-loop-index
invariant-loop-index l = HoldsStaysFirst l.index l.rules (changelog l.chains.commits) l.stays.items
