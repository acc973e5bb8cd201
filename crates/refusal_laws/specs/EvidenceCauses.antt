-- When each cause applies to a record of evidence, whatever else does.
use Rattle.std.specs.Prelude.{◌≡◌, ℕ, ◌<◌, true, false, List, [], ◌++◌, length, slice_get, Option, None, Some, IsSomeAnd, option_map, option_and_then, codes}
use Rattle.serde_json.specs.Data.{Data, Items, no_items, item}
use Rattle.serde_json.specs.Find.{as_array}
use Rattle.tuple_text.specs.Reading.{fact_at}
use Rattle.json_lines.specs.Fields.{number_at}
use Rattle.evidence_check.specs.Reading.{yes_of, no_of, are_known, steps_at, place_of, is_taken}
use Rattle.evidence_check.specs.Records.{Records}
use Rattle.evidence_check.specs.declared.cause.EvidenceCause.{EvidenceCause}
use Rattle.evidence_check.specs.declared.cause.EvidenceCause.TheVariants as causes
use Rattle.refusal_laws.specs.LeastCause.{first_fault}
use Rattle.refusal_laws.specs.TraceCauses.{text_and, texts_of}

-- the numbers of the causes of an evidence line
abbrev pub number : EvidenceCause → ℕ
number causes.Read = 1
number causes.TooLong = 2
number causes.NotJson = 3
number causes.Shape = 4
number (causes.Text f) = 5
number causes.UnknownStep = 6
number causes.StrayLine = 7
number causes.RepeatedLine = 8
number causes.TooMany = 9
number causes.OutOfMemory = 10

abbrev pub texts_in : Option Items → List (List ℕ)
texts_in None = []
texts_in (Some ds) = texts_of ds

abbrev pub step_texts : Option Data → Option Data → List (List ℕ)
step_texts (Some fact) other = text_and fact []
step_texts None (Some facts) = texts_in (as_array facts)
step_texts None None = []

-- the texts of steps that have exactly one of the keys `yes` and `no`
abbrev pub fact_texts : Items → List (List ℕ)
fact_texts no_items = []
fact_texts (item d ds) = step_texts (yes_of d) (no_of d) ++ fact_texts ds

-- what a record has in its fields
pub record RecordFields : Type 0 where
  pub line : ℕ
  pub steps : Items

-- the fields, where each is there and has its shape
unfoldable pub record_fields : Data → Option RecordFields
record_fields d =
    option_and_then (λ line. option_map (λ steps. record { line = line; steps = steps }) (steps_at d))
    (number_at (codes "line") d)

-- the record is for an entry of this number
abbrev pub IsForEntry : Records → RecordFields → (ℕ → Type 0) → Type 0
IsForEntry r x P = IsSomeAnd (place_of x.line r.lines) P

-- The cause applies to a record behind others. Of texts that are no facts the first one's fault does.
abbrev pub AppliesToRecord : Records → Data → EvidenceCause → Type 0
AppliesToRecord r d causes.Shape = record_fields d ≡ None
AppliesToRecord r d (causes.Text f) = IsSomeAnd (record_fields d) (λ x. first_fault fact_at (fact_texts x.steps) ≡ Some f)
AppliesToRecord r d causes.UnknownStep = IsSomeAnd (record_fields d) (λ x. are_known x.steps ≡ false)
AppliesToRecord r d causes.StrayLine = IsSomeAnd (record_fields d) (λ x. place_of x.line r.lines ≡ None)
AppliesToRecord r d causes.RepeatedLine =
    IsSomeAnd (record_fields d) (λ x. IsForEntry r x (λ place. is_taken (slice_get r.steps place) ≡ true))
AppliesToRecord r d causes.TooMany = IsSomeAnd (record_fields d) (λ x. 100000 < length (fact_texts x.steps))
AppliesToRecord r d _ = ⊥
