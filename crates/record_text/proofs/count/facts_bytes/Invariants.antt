use Rattle.std.proofs.Common.{◌≡◌, ◌+◌, ◌-◌, ◌^◌, ◌≤◌, min, drop, map}
use Rattle.evidence_check.specs.RecordData.{fact_data}
use Rattle.record_text.proofs.Lengths.{later_length}
use Rattle.record_text.proofs.count.facts_bytes.Given as goal

abbrev pub invariant-loop-fact : goal.invariant-loop-fact
invariant-loop-fact l = (l.count ≤ 2 ^ 64 - 1) × (min (l.count + later_length (map fact_data (drop l.fact-index l.facts))) (2 ^ 64 - 1) ≡ min (1 + later_length (map fact_data l.facts)) (2 ^ 64 - 1))
