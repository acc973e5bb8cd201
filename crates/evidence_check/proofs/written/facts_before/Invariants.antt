use Rattle.std.proofs.Common.{◌∷◌, map, length}
use denote.Text.{Utf8}
use denote.Shadow.{shadow}
use Rattle.tuple_text.specs.FactRefs.{fact_value}
use Rattle.evidence_check.specs.RecordPieces.{BeginsWithFacts}
use Rattle.evidence_check.proofs.written.facts_before.Given as goal

abbrev pub invariant-loop-next : goal.invariant-loop-next
invariant-loop-next l = BeginsWithFacts (34 ∷ l.fn.text) (map fact_value l.facts.items) l.rest × shadow (Utf8 l.rest)

abbrev pub decreases-loop-next : goal.decreases-loop-next
decreases-loop-next l = length l.rest
