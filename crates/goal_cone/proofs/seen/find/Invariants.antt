use Rattle.std.proofs.Common.{map}
use Rattle.tuple_text.specs.Order.{tuple_eq}
use Rattle.tuple_text.specs.Refs.{set_value}
use Rattle.tuple_text.specs.Tuples.{fact_of, fact_tuple}
use Rattle.marks.proofs.LeftLemmas.{AreLeft}
use Rattle.goal_cone.proofs.seen.find.Given as goal

abbrev pub invariant-loop-number : goal.invariant-loop-number
invariant-loop-number l =
    AreLeft (λ t. tuple_eq t (fact_tuple (fact_of (set_value l.set.set) l.user))) (map fact_tuple l.facts) l.number-iterator
