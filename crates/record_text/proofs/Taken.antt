-- What the reader of evidence makes of a record's text.
use Rattle.std.proofs.Common.{◌≡◌, ℕ, zero, suc, ◌+◌, ◌-◌, ◌<◌, ◌≤◌, ◌^◌, true, false, List, [], ◌∷◌, ◌++◌, length, replicate, None, Result, Ok, Err, IsUtf8, refl, sym, ap, ◌∙◌, arith, append-nil}
use Rattle.std.specs.Prelude.{slice_get}
use Rattle.std.proofs.lemmas.Bool.{le-ltb, ne_eqb}
use Rattle.refusals.specs.Refusals.{◌>>=◌, needed}
use Rattle.json_lines.specs.Json.{of_json, taken_line}
use Rattle.json_lines.specs.Reading.{parts, read_from, read_all}
use Rattle.json_lines.proofs.JsonLines.{of_a_text, of_no_blank}
use Rattle.json_lines.proofs.Folds.{goes_first, goes_on, within_from}
use Rattle.trace_lines.specs.Values.{EntryValue}
use Rattle.evidence_check.specs.Reading.{fact_count, place_of, put_steps, record_line, no_records, faulted}
use Rattle.evidence_check.specs.Reading as records
use Rattle.evidence_check.specs.RecordData.{record_data, HaveFacts}
use Rattle.evidence_check.specs.Records.{Records}
use Rattle.evidence_check.specs.Steps.{StepValue}
use Rattle.evidence_check.specs.declared.cause.EvidenceCause.{EvidenceCause}
use Rattle.evidence_check.specs.declared.cause.EvidenceCause.TheVariants as causes
use Rattle.evidence_check.proofs.JsonBack.{read-record}
use Rattle.evidence_check.proofs.RecordSteps.{placed, data_placed}
use Rattle.record_text.specs.Record.{record_text}
use Rattle.record_text.specs.ReadBack.{IsTaken, only_steps, IsReadBack}
use Rattle.record_text.proofs.OneLine.{record_lacks}

-- ---- the line, and the whole input

line_of_record : (line : ℕ) (steps : List StepValue) (r : Records) → HaveFacts steps → record_line r (record_data line steps) ≡ (needed causes.StrayLine (place_of line r.lines) >>= λ place. put_steps r place steps)
unfolding record_line
line_of_record line steps r facts = rw (data_placed r.lines line steps facts) (put_there (needed causes.StrayLine (place_of line r.lines)))
  where
    put_there : (place : Result ℕ EvidenceCause) → ((place >>= placed steps) >>= λ p. put_steps r p.0 p.1) ≡ (place >>= λ p. put_steps r p steps)
    put_there (Ok p) = refl
    put_there (Err e) = refl

pub is_taken : (line : ℕ) (steps : List StepValue) → line < 2 ^ 64 → HaveFacts steps → IsUtf8 (record_text line steps) → IsTaken line steps
is_taken line steps fits facts utf8 n r =
    of_no_blank causes.NotJson (λ n. record_line) n r (record_text line steps) refl
    ∙ of_a_text causes.NotJson (record_line r) (record_text line steps) utf8
    ∙ ap (of_json causes.NotJson (record_line r)) (read-record line steps fits)
    ∙ line_of_record line steps r facts

none_taken : (count place : ℕ) → records.is_taken (slice_get (replicate count None) place) ≡ false
none_taken zero place = refl
none_taken (suc count) zero = refl
none_taken (suc count) (suc place) = none_taken count place

-- the entry had no steps before
put_first : (entries : List EntryValue) (place : ℕ) (steps : List StepValue) → fact_count steps ≤ 100000
    → put_steps (no_records entries) place steps ≡ Ok (record (no_records entries) { steps = only_steps entries place steps })
unfolding put_steps
put_first entries place steps few = rw (none_taken (length entries) place, le-ltb _ _ few) refl

abbrev taken : ℕ → Records → List ℕ → Result Records EvidenceCause
taken = taken_line causes.NotJson (λ n. record_line)

-- what stands behind the newline is blank
last_line : (n room : ℕ) (r : Records) → read_from taken true n room r (parts []) ≡ Ok r
last_line n room r = rw (within_from room [] false (omega arith) refl) refl

pub is_read_back : (line : ℕ) (steps : List StepValue) → line < 2 ^ 64 → HaveFacts steps → IsUtf8 (record_text line steps) → (entries : List EntryValue) → IsReadBack entries line steps
unfolding read_all
is_read_back line steps fits facts utf8 entries place here short few =
    let text = record_text line steps in
    let start = no_records entries in
    let done : Records = record start { steps = only_steps entries place steps } in
    let step : taken 1 start text ≡ Ok done = is_taken line steps fits facts utf8 1 start ∙ rw here (put_first entries place steps few) in
    let within = within_from (2 ^ 30) text true (omega (arith, short)) (ne_eqb (length text) (2 ^ 30) (λ e. omega (arith, short, e))) in
    let gone = goes_on taken start 1 (2 ^ 30) start [] text done (goes_first taken start) (record_lacks line steps fits) within step in
    ap faulted (
    ap (λ l. read_from taken true 1 (2 ^ 30) start (parts l)) (sym (append-nil (text ++ 10 ∷ [])))
    ∙ gone.same true []
    ∙ last_line 2 (2 ^ 30 - (length text + 1)) done
    )
