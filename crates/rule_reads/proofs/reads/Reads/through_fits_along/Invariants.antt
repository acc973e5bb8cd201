use Rattle.rule_reads.specs.Reads.{IsLowWhereStored}
use Rattle.rule_reads.proofs.Chains.{IsLeftOrHolds}
use Rattle.rule_reads.proofs.reads.Reads.through_fits_along.Given as goal

abbrev pub invariant-loop-index : goal.invariant-loop-index
invariant-loop-index l = IsLeftOrHolds l.marks l.mark (IsLowWhereStored l.scope.rules.now l.scope.kinds.now l.users) l.self.through.items l.index-iterator
