-- What a line of evidence says by itself, and what that makes of the judgements.
use Rattle.std.specs.Prelude.{ℕ, List, Option, None, Some, Result, Ok, if◌then◌else◌}
use Rattle.refusals.specs.Refusals.{◌>>=◌}
use Rattle.json_lines.specs.Json.{is_blank, json_line}
use Rattle.trace_lines.specs.Values.{TraceValue}
use Rattle.evidence_check.specs.Alone.{settled, verdict_in}
use Rattle.evidence_check.specs.Records.{Judgements}
use Rattle.evidence_check.specs.declared.alone.Verdict.{Verdict}
use Rattle.evidence_check.specs.declared.cause.EvidenceCause.{EvidenceCause}
use Rattle.evidence_check.specs.declared.cause.EvidenceCause.TheVariants as causes

-- what a line says: nothing where it is blank
unfoldable pub verdict_told : TraceValue → List ℕ → List ℕ → Result (Option Verdict) EvidenceCause
verdict_told t lines line =
    if is_blank line then Ok None else json_line causes.NotJson (λ d. verdict_in t lines d >>= λ v. Ok (Some v)) line

abbrev pub put_verdict : Judgements → Option Verdict → Result Judgements EvidenceCause
put_verdict j None = Ok j
put_verdict j (Some v) = settled j v
