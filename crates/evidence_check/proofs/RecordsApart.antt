-- A record that is judged by itself and then put in is judged as it is read.
use Rattle.std.proofs.Common.{◌≡◌, ℕ, Bool, true, false, cond, ltb, List, Option, None, Some, Result, Ok, Err, refl, ap, ◌∙◌}
use Rattle.std.specs.Prelude.{slice_get, slice_set}
use Rattle.serde_json.specs.Data.{Data}
use Rattle.serde_json.specs.Read.{read}
use Rattle.refusals.specs.Refusals.{◌>>=◌, needed}
use Rattle.json_lines.specs.Json.{of_json}
use Rattle.trace_lines.specs.Values.{TraceValue}
use Rattle.evidence_check.specs.Alone.{judgement_at, settled, verdict_in, verdict_of}
use Rattle.evidence_check.specs.Judging.{is_judged, judge_line, judged_by, put_judged}
use Rattle.evidence_check.specs.Reading.{fact_count, place_of, placed_steps, record_in, record_of_text}
use Rattle.evidence_check.specs.Records.{Judgements}
use Rattle.evidence_check.specs.Steps.{RecordValue, StepValue}
use Rattle.evidence_check.specs.declared.alone.Verdict.{Verdict}
use Rattle.evidence_check.specs.declared.cause.EvidenceCause.{EvidenceCause}
use Rattle.evidence_check.specs.declared.cause.EvidenceCause.TheVariants as causes
use Rattle.evidence_check.specs.declared.judged.Judged.{Judged}
use Rattle.evidence_check.proofs.RecordSteps.{placed}
use Rattle.evidence_check.proofs.StepLoops.{at_place, placed_splits}

-- ---- what a record says by itself

-- the verdict of steps at the place of their entry
abbrev verdict_at : TraceValue → ℕ × List StepValue → Result Verdict EvidenceCause
verdict_at t q = Ok (record { place = q.0; judgement = judgement_at t q.0 q.1 })

abbrev pub verdict_by : TraceValue → List ℕ → RecordValue → Result Verdict EvidenceCause
verdict_by t lines x = needed causes.StrayLine (place_of x.line lines)
    >>= λ place. Ok (record { place = place; judgement = judgement_at t place x.steps })

verdict_splits : (t : TraceValue) (lines : List ℕ) (d : Data) → verdict_in t lines d ≡ (record_in d >>= verdict_by t lines)
unfolding verdict_in
verdict_splits t lines d =
    ap (λ (p : Result (ℕ × List StepValue) EvidenceCause). p >>= verdict_at t) (placed_splits lines d)
    ∙ by_record (record_in d)
  where
    by_place : (o : Option ℕ) (ss : List StepValue)
        → ((needed causes.StrayLine o >>= placed ss) >>= verdict_at t)
        ≡ (needed causes.StrayLine o >>= λ p. Ok (record { place = p; judgement = judgement_at t p ss }))
    by_place None ss = refl
    by_place (Some p) ss = refl

    by_record : (x : Result RecordValue EvidenceCause)
        → ((x >>= at_place lines) >>= verdict_at t) ≡ (x >>= verdict_by t lines)
    by_record (Ok x) = by_place (place_of x.line lines) x.steps
    by_record (Err e) = refl

pub text_alone : (t : TraceValue) (lines text : List ℕ) → verdict_of t lines text ≡ (record_of_text text >>= verdict_by t lines)
text_alone t lines text = by_value (read text)
  where
    by_value : (o : Option Data) → of_json causes.NotJson (verdict_in t lines) o ≡ (of_json causes.NotJson record_in o >>= verdict_by t lines)
    by_value None = refl
    by_value (Some d) = verdict_splits t lines d

-- a text that is read as a record
module _ (t : TraceValue) (lines text : List ℕ) (x : RecordValue) (is : record_of_text text ≡ Ok x) where
  pub stray_alone : place_of x.line lines ≡ None → verdict_of t lines text ≡ Err causes.StrayLine
  stray_alone none = rw (text_alone t lines text, is, none) refl

  pub found_alone : (place : ℕ) → place_of x.line lines ≡ Some place
      → verdict_of t lines text ≡ Ok (record { place = place; judgement = judgement_at t place x.steps })
  found_alone place there = rw (text_alone t lines text, is, there) refl

-- ---- what that makes of the judgements

too_many : (b : Bool) (j : Judgements) (place : ℕ) (judged : Judged)
    → cond b (Err causes.TooMany) (Ok (record j { judgements = slice_set j.judgements place judged }))
    ≡ (needed causes.TooMany (cond b None (Some judged)) >>= λ judgement. Ok
    (record j { judgements = slice_set j.judgements place judgement }))
too_many true j place judged = refl
too_many false j place judged = refl

put_is_settled : (j : Judgements) (place : ℕ) (steps : List StepValue)
    → put_judged j place steps ≡ settled j (record { place = place; judgement = judgement_at j.trace place steps })
unfolding put_judged settled
put_is_settled j place steps =
    ap (λ (r : Result Judgements EvidenceCause). cond (is_judged (slice_get j.judgements place))
    (Err causes.RepeatedLine) r)
    (too_many (ltb 100000 (fact_count steps)) j place (judged_by j.trace (slice_get j.trace.entries place) steps))

pub judge_splits : (j : Judgements) (d : Data) → judge_line j d ≡ (verdict_in j.trace j.lines d >>= λ v. settled j v)
unfolding judge_line verdict_in
judge_splits j d = by_place (placed_steps j.lines d)
  where
    by_place : (p : Result (ℕ × List StepValue) EvidenceCause)
        → (p >>= λ q. put_judged j q.0 q.1)
        ≡ ((p >>= verdict_at j.trace) >>= λ v. settled j v)
    by_place (Ok q) = put_is_settled j q.0 q.1
    by_place (Err e) = refl

pub text_judged : (j : Judgements) (text : List ℕ)
    → of_json causes.NotJson (judge_line j) (read text) ≡ (verdict_of j.trace j.lines text >>= λ v. settled j v)
text_judged j text = by_value (read text)
  where
    by_value : (o : Option Data) → of_json causes.NotJson (judge_line j) o ≡ (of_json causes.NotJson (verdict_in j.trace j.lines) o >>= λ v. settled j v)
    by_value None = refl
    by_value (Some d) = judge_splits j d
