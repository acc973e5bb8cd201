use Rattle.std.proofs.Common.{◌≡◌, ◌++◌, drop, map, false}
use Rattle.std.specs.Prelude.{string_bytes}
use Rattle.std.specs.List.{AllByRecursion}
use Rattle.serde_json.specs.View.{items_of}
use Rattle.serde_json.specs.Written.{items_text}
use Rattle.tuple_text.specs.Grammar.{IsFact}
use Rattle.evidence_check.specs.RecordData.{fact_data}
use Rattle.record_text.proofs.record.push_facts.Given as goal

-- what is left decides
abbrev pub invariant-loop-fact : goal.invariant-loop-fact
invariant-loop-fact l =
    (string_bytes l.out ++ items_text l.later (items_of (map fact_data (drop l.fact-index l.facts))) ≡ string_bytes l.initial.out ++ items_text false (items_of (map fact_data l.facts)))
    × (AllByRecursion IsFact (drop l.fact-index l.facts) → AllByRecursion IsFact l.facts)
