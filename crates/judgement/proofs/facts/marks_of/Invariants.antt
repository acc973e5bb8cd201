use Rattle.std.proofs.Common.{◌≡◌, map, take}
use Rattle.tuple_text.specs.Tuples.{fact_tuple}
use Rattle.marks.specs.Marks.{tuple_mark}
use Rattle.judgement.proofs.facts.marks_of.Given as goal

abbrev pub invariant-loop-fact : goal.invariant-loop-fact
invariant-loop-fact g l = l.marks ≡ map tuple_mark (map fact_tuple (map g.F.KnownFact.fact (take l.fact-index l.facts)))
