-- Judging each record as it is read.
use Rattle.std.specs.Prelude.{◌≡◌, ℕ, ◌||◌, Bool, true, false, List, length, nat_lt, replicate, slice_get, slice_set, Option, None, Some, Result, Ok, Err, if◌then◌else◌}
use Rattle.std.specs.declared.vec.Vec.{Vec}
use Rattle.std.specs.declared.alloc.Global.{Global}
use Rattle.serde_json.specs.Data.{Data}
use Rattle.refusals.specs.Refusals.{◌>>=◌, Unless}
use Rattle.trace_lines.specs.Values.{TraceValue, EntryValue, entry_lines}
use Rattle.evidence_check.specs.Causes.{is_memory, is_read}
use Rattle.evidence_check.specs.Evidences.{steps_of}
use Rattle.evidence_check.specs.Judged.{judged}
use Rattle.evidence_check.specs.Reading.{fact_count, placed_steps}
use Rattle.evidence_check.specs.Records.{Judgements}
use Rattle.evidence_check.specs.Steps.{StepValue}
use Rattle.evidence_check.specs.declared.cause.EvidenceCause.{EvidenceCause}
use Rattle.evidence_check.specs.declared.cause.EvidenceCause.TheVariants as causes
use Rattle.evidence_check.specs.declared.cause.EvidenceFault.{EvidenceFault}
use Rattle.evidence_check.specs.declared.judged.Judged.{Judged}
use Rattle.evidence_check.specs.declared.judged.Judged.TheVariants as by

-- whether a record was given for the entry
abbrev pub is_judged : Option Judged → Bool
is_judged None = false
is_judged (Some by.Missing) = false
is_judged (Some j) = true

-- the judgement of an entry by steps
abbrev pub judged_by : TraceValue → Option EntryValue → List StepValue → Judged
judged_by t None steps = by.Missing
judged_by t (Some e) steps = judged t e (Some steps)

unfoldable pub put_judged : Judgements → ℕ → List StepValue → Result Judgements EvidenceCause
put_judged j place steps =
    if is_judged (slice_get j.judgements place) then Err causes.RepeatedLine
    else (if nat_lt 100000 (fact_count steps) then Err causes.TooMany
    else Ok (record j {
      judgements = slice_set j.judgements place
          (judged_by j.trace (slice_get j.trace.entries place) steps);
    }))

unfoldable pub judge_line : Judgements → Data → Result Judgements EvidenceCause
judge_line j d = placed_steps j.lines d >>= λ p. put_judged j p.0 p.1

abbrev pub no_judgements : TraceValue → Judgements
no_judgements t = record {
  trace = t;
  lines = entry_lines t.entries;
  judgements = replicate (length t.entries) by.Missing;
}

-- each entry is judged by the steps that the evidence gives for it
abbrev pub AreJudged : TraceValue → List (Option (List StepValue)) → List Judged → Type 0
AreJudged t evidence judgements =
    (length judgements ≡ length t.entries)
    × ((i : ℕ) (e : EntryValue) → slice_get t.entries i ≡ Some e
    → slice_get judgements i ≡ Some (judged t e (steps_of evidence i)))

-- what is answered are the judgements by the evidence that is given, or the fault that is
abbrev pub GivesJudged : TraceValue → Result (Vec Judged Global) EvidenceFault
    → Result (List (Option (List StepValue))) EvidenceFault → Type 0
GivesJudged t (Ok v) given = (evidence : List (Option (List StepValue))) × (given ≡ Ok evidence)
    × AreJudged t evidence v.items
GivesJudged t (Err e) given = Unless (is_memory e.cause || is_read e.cause) (given ≡ Err e)
