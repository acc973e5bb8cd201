use Rattle.std.proofs.Common.{◌≡◌, drop, map}
use Rattle.std.specs.List.{list_any}
use Rattle.tuple_text.specs.Order.{fact_eq}
use Rattle.tuple_text.specs.Refs.{set_value}
use Rattle.tuple_text.specs.Tuples.{fact_of}
use Rattle.judgement.proofs.facts.is_marked_among.Given as goal

-- what is left decides
abbrev pub invariant-loop-fact : goal.invariant-loop-fact
invariant-loop-fact g l =
    list_any (fact_eq (fact_of (set_value l.set.set) l.user)) (map g.F.KnownFact.fact (drop l.fact-index l.facts))
    ≡ list_any (fact_eq (fact_of (set_value l.set.set) l.user)) (map g.F.KnownFact.fact l.facts)
