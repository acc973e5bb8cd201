use Rattle.std.proofs.Common.{map}
use Rattle.tuple_text.specs.Order.{tuple_eq}
use Rattle.tuple_text.specs.Refs.{set_value}
use Rattle.tuple_text.specs.Tuples.{fact_of, fact_tuple}
use Rattle.marks.specs.Marks.{tuple_mark}
use Rattle.marks.specs.Placed.{indices_of, IsLinkedPlace}
use Rattle.marks.proofs.LeftLemmas.{AreLeft}
use Rattle.std.specs.Prelude.{nat_eq}
use Rattle.judgement.proofs.facts.is_behind.Given as goal

abbrev pub invariant-loop-place : goal.invariant-loop-place
invariant-loop-place g l = record {
  on : IsLinkedPlace (nat_eq (tuple_mark (fact_tuple (fact_of (set_value l.set.set) l.user)))) l.marks l.place;
  left : AreLeft (λ t. tuple_eq t (fact_tuple (fact_of (set_value l.set.set) l.user))) (map fact_tuple (map g.F.KnownFact.fact l.facts))
      (indices_of (tuple_mark (fact_tuple (fact_of (set_value l.set.set) l.user))) l.marks l.place);
}

abbrev pub decreases-loop-place : goal.decreases-loop-place
decreases-loop-place g l = l.place
