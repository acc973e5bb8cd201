use Rattle.std.proofs.Common.{◌≡◌, drop}
use Rattle.rewrites.specs.View.{expressions_of}
use Rattle.strata.specs.Sights.{some_reads_tupleset}
use Rattle.strata.proofs.walk.+reads_tupleset.Given as goal

-- what decides are the children that are left
abbrev pub invariant-some_reads_tupleset-loop-child : goal.invariant-some_reads_tupleset-loop-child
invariant-some_reads_tupleset-loop-child l = some_reads_tupleset (expressions_of l.child-items) ≡ some_reads_tupleset (expressions_of (drop l.child-index l.child-items))
