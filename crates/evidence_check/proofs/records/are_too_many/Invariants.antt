use Rattle.std.proofs.Common.{◌≡◌, drop, map}
use Rattle.std.specs.Prelude.{nat_lt}
use Rattle.evidence_check.specs.Reading.{fact_count}
use Rattle.evidence_check.proofs.records.are_too_many.Given as goal

abbrev pub invariant-loop-step : goal.invariant-loop-step
invariant-loop-step g l = nat_lt l.room (fact_count (map g.S.AnyStep.step (drop l.step-index l.steps))) ≡ nat_lt 100000 (fact_count (map g.S.AnyStep.step l.steps))
