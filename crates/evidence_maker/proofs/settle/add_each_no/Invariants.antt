use Rattle.std.proofs.Common.{◌≡◌, drop}
use Rattle.evidence_check.specs.Accepted.{with_no}
use Rattle.evidence_maker.proofs.settle.add_each_no.Given as goal

abbrev pub invariant-loop-fact : goal.invariant-loop-fact
invariant-loop-fact l = with_no l.known (drop l.fact-index l.facts) ≡ with_no l.fn.known l.facts
