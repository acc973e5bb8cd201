-- A record that is read: its lists of JSON one item after the other, and then its place.
use Rattle.std.proofs.Common.{◌≡◌, ℕ, Bool, true, false, List, [], ◌∷◌, ◌++◌, Option, Some, None, Result, Ok, Err, refl, ap, sym, ◌∙◌, append_assoc}
use Rattle.std.specs.Prelude.{◌&&◌, codes}
use Rattle.std.specs.List.{list_all}
use Rattle.std.proofs.lemmas.List.{append-nil}
use Rattle.serde_json.specs.Data.{Data, Items}
use Rattle.serde_json.specs.View.{view, items_view}
use Rattle.serde_json.specs.declared.value.Value.{Value}
use Rattle.serde_json.specs.Read.{read}
use Rattle.json_lines.specs.Fields.{number_at}
use Rattle.json_lines.specs.Json.{of_json}
use Rattle.json_lines.proofs.ItemLoops.{ReadsEach}
use Rattle.refusals.specs.Refusals.{◌>>=◌, needed}
use Rattle.evidence_check.specs.Reading.{is_step, are_shaped, is_known, are_known, fact_in, facts_in, step_in, in_front, steps_in, steps_at, known_steps, record_steps, record_in, record_of_text, place_of, placed_steps, put_steps, record_line}
use Rattle.evidence_check.specs.Records.{Records}
use Rattle.evidence_check.specs.Steps.{RecordValue, StepValue}
use Rattle.evidence_check.proofs.RecordSteps.{placed}
use Rattle.evidence_check.specs.declared.cause.EvidenceCause.{EvidenceCause}
use Rattle.evidence_check.specs.declared.cause.EvidenceCause.TheVariants as causes

pub each_is_shaped : (vs : List Value) → list_all (λ (v : Value). is_step (view v)) vs ≡ are_shaped (items_view vs)
each_is_shaped [] = refl
each_is_shaped (v ∷ vs) = ap (λ b. is_step (view v) && b) (each_is_shaped vs)

pub each_is_known : (vs : List Value) → list_all (λ (v : Value). is_known (view v)) vs ≡ are_known (items_view vs)
each_is_known [] = refl
each_is_known (v ∷ vs) = ap (λ b. is_known (view v) && b) (each_is_known vs)

pub facts_are_read : ReadsEach fact_in (λ f fs. f ∷ fs) facts_in
facts_are_read = record {
  none = refl;
  some = λ d ds. refl;
  in_front = λ f front rest. sym (append_assoc front (f ∷ []) rest);
}

pub steps_are_read : ReadsEach step_in in_front steps_in
steps_are_read = record {
  none = refl;
  some = λ d ds. refl;
  in_front = behind;
}
  where
    behind : (o : Option StepValue) (front rest : List StepValue) → front ++ in_front o rest ≡ (front ++ in_front o []) ++ rest
    behind None front rest = ap (λ (ss : List StepValue). ss ++ rest) (sym (append-nil front))
    behind (Some s) front rest = sym (append_assoc front (s ∷ []) rest)

-- ---- a record

abbrev pub placed_at : Result (List StepValue) EvidenceCause → Option ℕ → Result (ℕ × List StepValue) EvidenceCause
placed_at steps place = steps >>= λ ss. needed causes.StrayLine place >>= λ p. Ok (p, ss)

regrouped : {A B C : Type 0} (read : Result A EvidenceCause) (f : A → Result B EvidenceCause) (g : B → Result C EvidenceCause) → (read >>= λ x. f x >>= g) ≡ (read >>= f) >>= g
regrouped (Ok x) f g = refl
regrouped (Err e) f g = refl

placed_items : (items : Option Items) (place : Option ℕ) →
    (needed causes.Shape items >>= λ ds. steps_in ds >>= λ read. known_steps ds read >>= λ ss. needed causes.StrayLine place >>= λ p. Ok (p, ss))
    ≡ placed_at (needed causes.Shape items >>= λ ds. steps_in ds >>= known_steps ds) place
placed_items None place = refl
placed_items (Some ds) place = regrouped (steps_in ds) (known_steps ds) (λ ss. needed causes.StrayLine place >>= λ p. Ok (p, ss))

placed_by_steps : (lines : List ℕ) (d : Data) → placed_steps lines d ≡ (needed causes.Shape (number_at (codes "line") d) >>= λ line. placed_at (record_steps d) (place_of line lines))
unfolding placed_steps record_steps
placed_by_steps lines d = λ i. needed causes.Shape (number_at (codes "line") d) >>= λ line. placed_items (steps_at d) (place_of line lines) i

-- ---- a record is read by itself, and then its entry is found

abbrev pub at_place : List ℕ → RecordValue → Result (ℕ × List StepValue) EvidenceCause
at_place lines r = needed causes.StrayLine (place_of r.line lines) >>= placed r.steps

line_first : (lines : List ℕ) (line : Option ℕ) (steps : Result (List StepValue) EvidenceCause)
    → (needed causes.Shape line >>= λ l. placed_at steps (place_of l lines))
    ≡ ((needed causes.Shape line >>= λ l. steps >>= λ ss. Ok (record { line = l; steps = ss })) >>= at_place lines)
line_first lines None steps = refl
line_first lines (Some line) (Ok ss) = refl
line_first lines (Some line) (Err e) = refl

pub placed_splits : (lines : List ℕ) (d : Data) → placed_steps lines d ≡ (record_in d >>= at_place lines)
unfolding record_in
placed_splits lines d = placed_by_steps lines d ∙ line_first lines (number_at (codes "line") d) (record_steps d)

-- ---- records that are kept

-- what a record makes of those that are kept
abbrev pub kept_of : Records → RecordValue → Result Records EvidenceCause
kept_of r x = needed causes.StrayLine (place_of x.line r.lines) >>= λ place. put_steps r place x.steps

line_kept : (r : Records) (d : Data) → record_line r d ≡ (record_in d >>= kept_of r)
unfolding record_line
line_kept r d =
    ap (λ (p : Result (ℕ × List StepValue) EvidenceCause). p >>= λ q. put_steps r q.0 q.1) (placed_splits r.lines d)
    ∙ by_record (record_in d)
  where
    by_place : (o : Option ℕ) (ss : List StepValue)
        → ((needed causes.StrayLine o >>= placed ss) >>= λ q. put_steps r q.0 q.1) ≡ (needed causes.StrayLine o >>= λ p. put_steps r p ss)
    by_place None ss = refl
    by_place (Some p) ss = refl

    by_record : (x : Result RecordValue EvidenceCause) → ((x >>= at_place r.lines) >>= λ q. put_steps r q.0 q.1) ≡ (x >>= kept_of r)
    by_record (Ok x) = by_place (place_of x.line r.lines) x.steps
    by_record (Err e) = refl

pub text_kept : (r : Records) (text : List ℕ) → of_json causes.NotJson (record_line r) (read text) ≡ (record_of_text text >>= kept_of r)
text_kept r text = by_value (read text)
  where
    by_value : (o : Option Data) → of_json causes.NotJson (record_line r) o ≡ (of_json causes.NotJson record_in o >>= kept_of r)
    by_value None = refl
    by_value (Some d) = line_kept r d

-- a text that is read as a record
module _ (r : Records) (text : List ℕ) (x : RecordValue) (is : record_of_text text ≡ Ok x) where
  pub stray_kept : place_of x.line r.lines ≡ None → of_json causes.NotJson (record_line r) (read text) ≡ Err causes.StrayLine
  stray_kept none = rw (text_kept r text, is, none) refl

  pub found_kept : (place : ℕ) → place_of x.line r.lines ≡ Some place → of_json causes.NotJson (record_line r) (read text) ≡ put_steps r place x.steps
  found_kept place there = rw (text_kept r text, is, there) refl
