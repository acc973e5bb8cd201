-- What a record says of its entry by itself, and what that makes of the judgements.
use Rattle.std.specs.Prelude.{ℕ, List, Option, None, Some, Result, Ok, Err, nat_lt, slice_get, slice_set, if◌then◌else◌}
use Rattle.serde_json.specs.Data.{Data}
use Rattle.serde_json.specs.Read.{read}
use Rattle.refusals.specs.Refusals.{◌>>=◌, needed}
use Rattle.json_lines.specs.Json.{of_json}
use Rattle.trace_lines.specs.Values.{TraceValue}
use Rattle.evidence_check.specs.Judging.{is_judged, judged_by}
use Rattle.evidence_check.specs.Reading.{fact_count, placed_steps}
use Rattle.evidence_check.specs.Records.{Judgements}
use Rattle.evidence_check.specs.Steps.{StepValue}
use Rattle.evidence_check.specs.declared.alone.Verdict.{Verdict}
use Rattle.evidence_check.specs.declared.cause.EvidenceCause.{EvidenceCause}
use Rattle.evidence_check.specs.declared.cause.EvidenceCause.TheVariants as causes
use Rattle.evidence_check.specs.declared.judged.Judged.{Judged}

-- the judgement of the entry at a place, where the steps do not have too many facts
abbrev pub judgement_at : TraceValue → ℕ → List StepValue → Option Judged
judgement_at t place steps = if nat_lt 100000 (fact_count steps) then None
    else Some (judged_by t (slice_get t.entries place) steps)

-- what a record says, by the trace and the lines of its entries alone
unfoldable pub verdict_in : TraceValue → List ℕ → Data → Result Verdict EvidenceCause
verdict_in t lines d = placed_steps lines d >>= λ p. Ok (record { place = p.0; judgement = judgement_at t p.0 p.1 })

-- the same of a text
abbrev pub verdict_of : TraceValue → List ℕ → List ℕ → Result Verdict EvidenceCause
verdict_of t lines text = of_json causes.NotJson (verdict_in t lines) (read text)

-- what that makes of the judgements: of these only the one at the place changes
unfoldable pub settled : Judgements → Verdict → Result Judgements EvidenceCause
settled j v = if is_judged (slice_get j.judgements v.place) then Err causes.RepeatedLine
    else (needed causes.TooMany v.judgement
    >>= λ judgement. Ok (record j { judgements = slice_set j.judgements v.place judgement }))
