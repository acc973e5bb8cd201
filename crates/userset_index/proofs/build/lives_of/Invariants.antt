use Rattle.version_chains.specs.Commits.{changelog}
use Rattle.userset_index.specs.Building.{AreOfFirst, HoldsFirst}
use Rattle.userset_index.specs.Index.{AreTimely}
use Rattle.userset_index.proofs.build.lives_of.Given as goal

abbrev pub invariant-loop-index : goal.invariant-loop-index
invariant-loop-index l = record {
  holds : HoldsFirst l.index l.rules l.way (changelog l.chains.commits) l.crowds.counts.items l.lives.items;
  timely : AreTimely (changelog l.chains.commits) l.lives.items;
  once : AreOfFirst l.index l.lives.items;
}
