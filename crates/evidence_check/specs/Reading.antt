-- The evidence that the lines of an input say.
use Rattle.std.specs.Prelude.{◌≡◌, ℕ, ◌+◌, ◌==◌, ◌&&◌, ◌||◌, Bool, true, false, List, [], ◌∷◌, length, nat_lt, Option, None, Some, is_some, replicate, position, slice_get, slice_set, option_and_then, Result, Ok, Err, codes, if◌then◌else◌}
use Rattle.serde_json.specs.Data.{Data, Items, no_items, item}
use Rattle.serde_json.specs.Find.{get, as_str, as_array, as_object}
use Rattle.serde_json.specs.Read.{read}
use Rattle.tuple_text.specs.Reading.{fact_at}
use Rattle.tuple_text.specs.Tuples.{FactValue}
use Rattle.json_lines.specs.Fields.{number_at, is_string, are_strings}
use Rattle.refusals.specs.Refusals.{◌>>=◌, needed, Unless, Gives}
use Rattle.json_lines.specs.InputRead.{InputRead}
use Rattle.json_lines.specs.Json.{of_json, taken_line}
use Rattle.json_lines.specs.Reading.{cause_of, read_all}
use Rattle.trace_lines.specs.Values.{EntryValue, entry_lines}
use Rattle.json_lines.specs.declared.reading.LineFault.{LineFault}
use Rattle.evidence_check.specs.Causes.{text_cause, of_input, is_memory, is_read}
use Rattle.evidence_check.specs.Records.{Records}
use Rattle.evidence_check.specs.Steps.{RecordValue, StepValue, yes_step, no_step}
use Rattle.evidence_check.specs.declared.cause.EvidenceCause.{EvidenceCause}
use Rattle.evidence_check.specs.declared.cause.EvidenceCause.TheVariants as causes
use Rattle.evidence_check.specs.declared.cause.EvidenceFault.{EvidenceFault}

-- ---- the steps of a record

-- what stands at a key of a step that does not have the other key
abbrev pub at_only : List ℕ → List ℕ → Data → Option Data
at_only key other d = if is_some (get other d) then None else get key d

-- what a step says to hold, and what not; nothing of a step with neither key or both, where nothing else is looked at
abbrev pub yes_of : Data → Option Data
yes_of d = at_only (codes "yes") (codes "no") d

abbrev pub no_of : Data → Option Data
no_of d = at_only (codes "no") (codes "yes") d

abbrev pub is_known : Data → Bool
is_known d = is_some (yes_of d) || is_some (no_of d)

abbrev pub are_known : Items → Bool
are_known no_items = true
are_known (item d ds) = is_known d && are_known ds

abbrev pub all_are_texts : Option Items → Bool
all_are_texts None = false
all_are_texts (Some ds) = are_strings ds

abbrev pub is_text_list : Data → Bool
is_text_list d = all_are_texts (as_array d)

abbrev pub has_shape : Option Data → Option Data → Bool
has_shape (Some d) other = is_string d
has_shape None (Some d) = is_text_list d
has_shape None None = true

-- an object, with a text under `yes` or a list of texts under `no`, where it is known
abbrev pub is_step : Data → Bool
is_step d = is_some (as_object d) && has_shape (yes_of d) (no_of d)

abbrev pub are_shaped : Items → Bool
are_shaped no_items = true
are_shaped (item d ds) = is_step d && are_shaped ds

abbrev pub fact_in : Data → Result FactValue EvidenceCause
fact_in d = needed causes.Shape (as_str d) >>= λ t. text_cause (fact_at t)

-- the facts of texts, up to the first that is none
abbrev pub facts_in : Items → Result (List FactValue) EvidenceCause
facts_in no_items = Ok []
facts_in (item d ds) = fact_in d >>= λ f. facts_in ds >>= λ fs. Ok (f ∷ fs)

abbrev pub yes_in : Data → Result (Option StepValue) EvidenceCause
yes_in d = fact_in d >>= λ f. Ok (Some (yes_step f))

abbrev pub no_in : Data → Result (Option StepValue) EvidenceCause
no_in d = needed causes.Shape (as_array d) >>= λ ds. facts_in ds >>= λ fs. Ok (Some (no_step fs))

abbrev pub step_from : Option Data → Option Data → Result (Option StepValue) EvidenceCause
step_from (Some d) other = yes_in d
step_from None (Some d) = no_in d
step_from None None = Ok None

-- the step that a value is, where it is known
abbrev pub step_in : Data → Result (Option StepValue) EvidenceCause
step_in d = step_from (yes_of d) (no_of d)

abbrev pub in_front : Option StepValue → List StepValue → List StepValue
in_front None ss = ss
in_front (Some s) ss = s ∷ ss

-- the steps that are known, up to the first text that is no fact
abbrev pub steps_in : Items → Result (List StepValue) EvidenceCause
steps_in no_items = Ok []
steps_in (item d ds) = step_in d >>= λ s. steps_in ds >>= λ ss. Ok (in_front s ss)

abbrev pub if_shaped : Items → Option Items
if_shaped ds = if are_shaped ds then Some ds else None

unfoldable pub steps_at : Data → Option Items
steps_at d = option_and_then if_shaped (option_and_then as_array (get (codes "steps") d))

abbrev pub known_steps : Items → List StepValue → Result (List StepValue) EvidenceCause
known_steps items steps = if are_known items then Ok steps else Err causes.UnknownStep

-- the steps of a record
unfoldable pub record_steps : Data → Result (List StepValue) EvidenceCause
record_steps d = needed causes.Shape (steps_at d) >>= λ items. steps_in items >>= known_steps items

-- the record that a value is, whatever it is evidence for
unfoldable pub record_in : Data → Result RecordValue EvidenceCause
record_in d = needed causes.Shape (number_at (codes "line") d) >>= λ line. record_steps d
    >>= λ steps. Ok (record { line = line; steps = steps })

-- and the one that a text is
abbrev pub record_of_text : List ℕ → Result RecordValue EvidenceCause
record_of_text text = of_json causes.NotJson record_in (read text)

abbrev pub count_of : StepValue → ℕ
count_of (yes_step f) = 1
count_of (no_step fs) = length fs

-- how many facts steps have
abbrev pub fact_count : List StepValue → ℕ
fact_count [] = 0
fact_count (s ∷ ss) = count_of s + fact_count ss

-- ---- records

-- the place of the entry on a line
abbrev pub place_of : ℕ → List ℕ → Option ℕ
place_of line lines = position (λ l. l == line) lines

abbrev pub is_taken : Option (Option (List StepValue)) → Bool
is_taken None = false
is_taken (Some None) = false
is_taken (Some (Some steps)) = true

unfoldable pub put_steps : Records → ℕ → List StepValue → Result Records EvidenceCause
put_steps r place steps =
    if is_taken (slice_get r.steps place) then Err causes.RepeatedLine
    else (if nat_lt 100000 (fact_count steps) then Err causes.TooMany
    else Ok (record r { steps = slice_set r.steps place (Some steps) }))

-- a record: the place of its entry, and its steps
unfoldable pub placed_steps : List ℕ → Data → Result (ℕ × List StepValue) EvidenceCause
placed_steps lines d = do
  line ← needed causes.Shape (number_at (codes "line") d)
  items ← needed causes.Shape (steps_at d)
  read ← steps_in items
  steps ← known_steps items read
  place ← needed causes.StrayLine (place_of line lines)
  Ok (place, steps)

unfoldable pub record_line : Records → Data → Result Records EvidenceCause
record_line r d = placed_steps r.lines d >>= λ p. put_steps r p.0 p.1

-- ---- the evidence

abbrev pub faulted : Result Records (LineFault EvidenceCause) → Result (List (Option (List StepValue))) EvidenceFault
faulted (Ok r) = Ok r.steps
faulted (Err e) = Err (record { line = e.line; cause = cause_of of_input e.stop })

-- no record yet, for entries on these lines
abbrev pub no_records : List EntryValue → Records
no_records entries = record { lines = entry_lines entries; steps = replicate (length entries) None }

-- The steps for each entry that an input says, or its first fault. Whole says that the input ended, and did not fail.
abbrev pub evidence_of : List EntryValue → Bool → List ℕ → Result (List (Option (List StepValue))) EvidenceFault
evidence_of entries whole input =
    faulted (read_all (taken_line causes.NotJson (λ n. record_line)) whole (no_records entries) input)

-- a fault that was answered is the one that the input gives, unless memory ran out or the reader failed
abbrev pub FailsBy : {Y : Type 0} → EvidenceCause → EvidenceFault → Result Y EvidenceFault → Type 0
FailsBy cause e given = Unless (is_memory cause || is_read cause) (given ≡ Err e)

abbrev pub GivesEvidence : {X Y : Type 0} → (X → Y) → Result X EvidenceFault → Result Y EvidenceFault → Type 0
GivesEvidence view result given = Gives (λ e. is_memory e.cause || is_read e.cause) view result given

-- The evidence for entries was read, or refused. Says tells what an answer has to do with the evidence of an input.
abbrev pub EvidenceRead : {R X : Type 0}
    → (Result X EvidenceFault → Result (List (Option (List StepValue))) EvidenceFault → Type 0) → List EntryValue
    → (R → List ℕ) → (R → ℕ) → (R → ℕ) → (R → Option (List ℕ)) → R → R → Result X EvidenceFault → Type 0
EvidenceRead Says entries given ends failures remaining old new result =
    InputRead (λ e. e.cause ≡ causes.Read) (λ e. e.line) (λ r input. Says r (evidence_of entries true input))
    (λ e came. evidence_of entries false came ≡ Err e) given ends failures remaining old new result
