use Rattle.rule_reads.specs.Reads.{FitsOwn}
use Rattle.rule_reads.proofs.Chains.{IsLeftOrHolds}
use Rattle.rule_reads.proofs.reads.Reads.own_fits_along.Given as goal

abbrev pub invariant-loop-index : goal.invariant-loop-index
invariant-loop-index l = IsLeftOrHolds l.marks l.mark (FitsOwn l.scope.rules.now l.self) l.scope.tuples.now l.index-iterator
