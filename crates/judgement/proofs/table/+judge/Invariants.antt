use Rattle.std.proofs.Common.{◌↔◌, drop}
use Rattle.rewrites.specs.View.{expression_of, expressions_of}
use Rattle.judgement.specs.AskedFact.{SaysOf}
use Rattle.judgement.specs.Judgement.{Established, SomeEstablished, EachEstablished, Refuted, EachRefuted, SomeRefuted}
use Rattle.judgement.proofs.table.+judge.Given as goal

abbrev pub decreases-established : goal.decreases-established
decreases-established g l = goal.size-established g l

abbrev pub decreases-refuted : goal.decreases-refuted
decreases-refuted g l = goal.size-refuted g l

abbrev pub invariant-established-loop-child : goal.invariant-established-loop-child
invariant-established-loop-child g l =
    SaysOf SomeEstablished l.fact (expressions_of (drop l.child-index l.child-items))
    ↔ SaysOf Established l.fact (expression_of l.fn.rewrite)

abbrev pub invariant-established-loop-child-2 : goal.invariant-established-loop-child-2
invariant-established-loop-child-2 g l =
    SaysOf EachEstablished l.fact (expressions_of (drop l.child-index l.child-items))
    ↔ SaysOf Established l.fact (expression_of l.fn.rewrite)

abbrev pub invariant-refuted-loop-child : goal.invariant-refuted-loop-child
invariant-refuted-loop-child g l =
    SaysOf EachRefuted l.fact (expressions_of (drop l.child-index l.child-items))
    ↔ SaysOf Refuted l.fact (expression_of l.fn.rewrite)

abbrev pub invariant-refuted-loop-child-2 : goal.invariant-refuted-loop-child-2
invariant-refuted-loop-child-2 g l =
    SaysOf SomeRefuted l.fact (expressions_of (drop l.child-index l.child-items))
    ↔ SaysOf Refuted l.fact (expression_of l.fn.rewrite)
