-- A record is never refused as a failure of the reader.
use Rattle.std.proofs.Common.{ℕ, List, Option, Some, None, Result, Ok, Err, ltb, subst}
use Rattle.std.specs.Prelude.{codes, slice_get}
use Rattle.serde_json.specs.Data.{Data, Items, no_items, item}
use Rattle.serde_json.specs.Find.{as_str, as_array}
use Rattle.tuple_text.specs.declared.fault.TupleFault.{TupleFault}
use Rattle.tuple_text.specs.Reading.{fact_at}
use Rattle.json_lines.specs.Fields.{number_at}
use Rattle.refusals.specs.Refusals.{needed}
use Rattle.refusals.proofs.Steps.{ErrHas, refused, either_refused, needed_refused, refusal_has}
use Rattle.json_lines.specs.Json.{taken_line}
use Rattle.json_lines.proofs.JsonLines.{line_refused}
use Rattle.json_lines.proofs.ReadFaults.{IsReadersOwn}
use Rattle.evidence_check.specs.Causes.{text_cause, of_input}
use Rattle.evidence_check.specs.Records.{Records, Judgements}
use Rattle.evidence_check.specs.Steps.{StepValue}
use Rattle.evidence_check.specs.Reading.{yes_of, no_of, fact_in, facts_in, step_from, step_in, steps_in, steps_at, fact_count, are_known, known_steps, place_of, placed_steps, is_taken, put_steps, record_line}
use Rattle.evidence_check.specs.Judging.{is_judged, judge_line, put_judged}
use Rattle.evidence_check.specs.declared.cause.EvidenceCause.{EvidenceCause}
use Rattle.evidence_check.specs.declared.cause.EvidenceCause.TheVariants as causes

-- no cause of the reader
abbrev pub IsOfLine : EvidenceCause → Type 0
IsOfLine causes.Read = ⊥
IsOfLine _ = Unit {0}

abbrev OfLine : {A : Type 0} → Result A EvidenceCause → Type 0
OfLine r = ErrHas IsOfLine r

of_text : {A : Type 0} (r : Result A TupleFault) → OfLine (text_cause r)
of_text (Ok x) = tt
of_text (Err e) = tt

of_fact : (d : Data) → OfLine (fact_in d)
of_fact d = refused IsOfLine (needed causes.Shape (as_str d)) _ (needed_refused IsOfLine causes.Shape _ tt) (λ t. of_text (fact_at t))

of_facts : (items : Items) → OfLine (facts_in items)
of_facts no_items = tt
of_facts (item d ds) = refused IsOfLine (fact_in d) _ (of_fact d) (λ f. refused IsOfLine (facts_in ds) _ (of_facts ds) (λ fs. tt))

of_step : (a b : Option Data) → OfLine (step_from a b)
of_step (Some d) b = refused IsOfLine (fact_in d) _ (of_fact d) (λ f. tt)
of_step None (Some d) = refused IsOfLine (needed causes.Shape (as_array d)) _ (needed_refused IsOfLine causes.Shape _ tt) (λ ds. refused IsOfLine (facts_in ds) _ (of_facts ds) (λ fs. tt))
of_step None None = tt

of_steps : (items : Items) → OfLine (steps_in items)
of_steps no_items = tt
of_steps (item d ds) = refused IsOfLine (step_in d) _ (of_step (yes_of d) (no_of d)) (λ s. refused IsOfLine (steps_in ds) _ (of_steps ds) (λ ss. tt))

of_put : (r : Records) (place : ℕ) (steps : List StepValue) → OfLine (put_steps r place steps)
unfolding put_steps
of_put r place steps = either_refused IsOfLine (is_taken (slice_get r.steps place)) _ _ tt (either_refused IsOfLine (ltb 100000 (fact_count steps)) _ _ tt tt)

of_placed : (lines : List ℕ) (d : Data) → OfLine (placed_steps lines d)
unfolding placed_steps
of_placed lines d =
    refused IsOfLine (needed causes.Shape (number_at (codes "line") d)) _ (needed_refused IsOfLine causes.Shape _ tt)
    (λ line. refused IsOfLine (needed causes.Shape (steps_at d)) _ (needed_refused IsOfLine causes.Shape _ tt)
    (λ items. refused IsOfLine (steps_in items) _ (of_steps items)
    (λ known. refused IsOfLine (known_steps items known) _ (either_refused IsOfLine (are_known items) _ _ tt tt)
    (λ steps. refused IsOfLine (needed causes.StrayLine (place_of line lines)) _ (needed_refused IsOfLine causes.StrayLine _ tt)
    (λ place. tt)))))

of_record : (r : Records) (d : Data) → OfLine (record_line r d)
unfolding record_line
of_record r d = refused IsOfLine (placed_steps r.lines d) _ (of_placed r.lines d) (λ p. of_put r p.0 p.1)

of_put_judged : (j : Judgements) (place : ℕ) (steps : List StepValue) → OfLine (put_judged j place steps)
unfolding put_judged
of_put_judged j place steps = either_refused IsOfLine (is_judged (slice_get j.judgements place)) _ _ tt (either_refused IsOfLine (ltb 100000 (fact_count steps)) _ _ tt tt)

of_judged : (j : Judgements) (d : Data) → OfLine (judge_line j d)
unfolding judge_line
of_judged j d = refused IsOfLine (placed_steps j.lines d) _ (of_placed j.lines d) (λ p. of_put_judged j p.0 p.1)

-- where no line is refused as a failure of the reader
own : {S : Type 0} (taken : S → Data → Result S EvidenceCause) → ((s : S) (d : Data) → OfLine (taken s d)) → IsReadersOwn (taken_line causes.NotJson (λ n. taken)) of_input
own taken of_line = record {
  of_no_line = λ n s line c e told. subst IsOfLine told (refusal_has IsOfLine (taken_line causes.NotJson (λ n. taken) n s line) c e (line_refused IsOfLine causes.NotJson (λ n. taken) n s line tt (of_line s)));
  not_too_long = λ e. cc;
  not_memory = λ e. cc;
}

-- what a record says, and how it is told, is never a failure of the reader
pub readers_own : IsReadersOwn (taken_line causes.NotJson (λ n. record_line)) of_input
readers_own = own record_line of_record

pub judging_own : IsReadersOwn (taken_line causes.NotJson (λ n. judge_line)) of_input
judging_own = own judge_line of_judged
