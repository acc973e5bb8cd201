use Rattle.version_chains.specs.Commits.{changelog}
use Rattle.userset_index.specs.Building.{AreSetMarks}
use Rattle.userset_index.proofs.build.set_marks.Given as goal

abbrev pub invariant-loop-index : goal.invariant-loop-index
invariant-loop-index l = AreSetMarks (changelog l.chains.commits) l.index l.marks.items
