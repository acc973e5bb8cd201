use Rattle.std.proofs.Common.{map}
use Rattle.tuple_text.specs.Order.{tuple_eq}
use Rattle.tuple_text.specs.Refs.{set_value}
use Rattle.tuple_text.specs.Tuples.{fact_of, fact_tuple}
use Rattle.marks.proofs.LeftLemmas.{AreLeft}
use Rattle.judgement.proofs.facts.is_found.Given as goal

abbrev pub invariant-loop-index : goal.invariant-loop-index
invariant-loop-index g l =
    AreLeft (λ t. tuple_eq t (fact_tuple (fact_of (set_value l.set.set) l.user))) (map fact_tuple (map g.F.KnownFact.fact l.facts)) l.index-iterator
