-- Records that are made for the entries of a trace are read back as evidence for it.
use Rattle.std.proofs.Common.{◌≡◌, ℕ, suc, ◌+◌, ◌-◌, ◌<◌, ◌≤◌, ◌^◌, true, false, List, [], ◌∷◌, ◌++◌, length, replicate, Option, None, Some, Result, Ok, refl, sym, ap, subst, ◌∙◌, arith, append_assoc, append-nil, length-append}
use Rattle.std.specs.Prelude.{slice_get, slice_set}
use Rattle.std.specs.List.Sorted.{IsStrictlyIncreasing}
use Rattle.std.proofs.Math.Seq.{get_or-append_seam}
use Rattle.std.proofs.lemmas.Bool.{le-ltb, ne_eqb}
use Rattle.json_lines.specs.Json.{taken_line}
use Rattle.json_lines.specs.Reading.{parts, read_from, read_all}
use Rattle.json_lines.specs.SoFar.{GoesFrom}
use Rattle.json_lines.proofs.Folds.{goes_first, goes_on, within_from}
use Rattle.trace_lines.specs.Values.{TraceValue, EntryValue, entry_lines}
use Rattle.evidence_check.specs.Reading.{fact_count, place_of, put_steps, record_line, no_records, faulted, evidence_of}
use Rattle.evidence_check.specs.Records.{Records}
use Rattle.evidence_check.specs.Steps.{StepValue}
use Rattle.evidence_check.specs.declared.cause.EvidenceCause.{EvidenceCause}
use Rattle.evidence_check.specs.declared.cause.EvidenceCause.TheVariants as causes
use Rattle.evidence_check.proofs.Places.{found_place}
use Rattle.record_text.specs.Record.{record_text}
use Rattle.record_text.proofs.OneLine.{record_lacks}
use Rattle.audit.specs.Made.{AreRecords, records_text}
use Rattle.audit.proofs.MadeRecords.{IsWritten, AreWritten, IsMadeSoFar}

abbrev taken : ℕ → Records → List ℕ → Result Records EvidenceCause
taken = taken_line causes.NotJson (λ n. record_line)

-- ---- the place of an entry

seam_get : {X : Type 0} (xs : List X) (y : X) (ys : List X) → slice_get (xs ++ y ∷ ys) (length xs) ≡ Some y
seam_get [] y ys = refl
seam_get (x ∷ xs) y ys = seam_get xs y ys

seam_set : {X : Type 0} (xs : List X) (y z : X) (ys : List X) → slice_set (xs ++ y ∷ ys) (length xs) z ≡ xs ++ z ∷ ys
seam_set [] y z ys = refl
seam_set (x ∷ xs) y z ys = ap (λ (l : List _). x ∷ l) (seam_set xs y z ys)

place_here : (before : List ℕ) (line : ℕ) (behind : List ℕ) → IsStrictlyIncreasing (before ++ line ∷ behind)
    → place_of line (before ++ line ∷ behind) ≡ Some (length before)
place_here before line behind up =
    let size = length-append before (line ∷ behind) in
    sym
    (found_place (before ++ line ∷ behind) up line (Ok (length before))
    (omega (arith, size), get_or-append_seam before line behind 0))

-- ---- what is read so far

abbrev so_far : List ℕ → List (Option (List StepValue)) → ℕ → Records
so_far lines done left = record { lines = lines; steps = done ++ replicate left None }

-- none is known of the next entry
moved : (lines : List ℕ) (done : List (Option (List StepValue))) (o : Option (List StepValue)) (left : ℕ)
    → record { lines = lines; steps = done ++ o ∷ replicate left None } ≡ so_far lines (done ++ o ∷ []) left
moved lines done o left =
    ap (λ (l : List (Option (List StepValue))). record { lines = lines; steps = l })
    (sym (append_assoc done (o ∷ []) (replicate left None)))

put_next : (lines : List ℕ) (done : List (Option (List StepValue))) (left : ℕ) (steps : List StepValue)
    → fact_count steps ≤ 100000
    → put_steps (so_far lines done (suc left)) (length done) steps ≡ Ok
    (record { lines = lines; steps = done ++ Some steps ∷ replicate left None })
unfolding put_steps
put_next lines done left steps few =
    rw (
      seam_get done None (replicate left None),
      le-ltb _ _ few,
      seam_set done None (Some steps) (replicate left None),
    ) refl

module _ (start : Records) where
  -- one record more is read
  read_next : (n room : ℕ) (used before behind : List ℕ) (done : List (Option (List StepValue))) (left : ℕ)
      (e : EntryValue) (steps : List StepValue)
      → IsStrictlyIncreasing (before ++ e.line ∷ behind) → length done ≡ length before → IsWritten e steps
      → length (record_text e.line steps) < room
      → GoesFrom taken start n room (so_far (before ++ e.line ∷ behind) done (suc left)) used
      → GoesFrom taken start (n + 1) (room - (length (record_text e.line steps) + 1))
      (so_far (before ++ e.line ∷ behind) (done ++ Some steps ∷ []) left)
      (used ++ (record_text e.line steps ++ 10 ∷ []))
  read_next n room used before behind done left e steps up same written fits from =
      let lines = before ++ e.line ∷ behind in
      let text = record_text e.line steps in
      let here : place_of e.line lines ≡ Some (length done) = place_here before e.line behind up ∙ ap Some (sym same) in
      let step : taken n (so_far lines done (suc left)) text ≡ Ok
      (record { lines = lines; steps = done ++ Some steps ∷ replicate left None }) =
      written.taken n (so_far lines done (suc left)) ∙ rw here (put_next lines done left steps written.facts) in
      let short = written.bytes in
      let within =
      within_from room text true (omega (arith, short, fits))
      (ne_eqb (length text) room (λ e. omega (arith, fits, e))) in
      subst (λ (s : Records). GoesFrom taken start (n + 1) (room - (length text + 1)) s (used ++ (text ++ 10 ∷ [])))
      (moved lines done (Some steps) left)
      (goes_on taken start n room (so_far lines done (suc left)) used text
      (record { lines = lines; steps = done ++ Some steps ∷ replicate left None }) from
      (record_lacks e.line steps written.line) within step)

  -- what stands behind the last newline is blank
  ended : (n room : ℕ) (s : Records) (used : List ℕ) → GoesFrom taken start n room s used
      → read_all taken true start used ≡ Ok s
  unfolding read_all
  ended n room s used from =
      ap (λ (l : List ℕ). read_from taken true 1 (2 ^ 30) start (parts l)) (sym (append-nil used)) ∙ from.same true []
      ∙ rw (within_from room [] false (omega arith) refl) refl

  read_rest : (n room : ℕ) (used before lines : List ℕ) (done : List (Option (List StepValue))) (es : List EntryValue)
      (os : List (Option (List StepValue)))
      → lines ≡ before ++ entry_lines es → IsStrictlyIncreasing lines → length done ≡ length before → AreWritten es os
      → length (records_text es os) ≤ room
      → GoesFrom taken start n room (so_far lines done (length es)) used
      → read_all taken true start (used ++ records_text es os) ≡ Ok (so_far lines (done ++ os) 0)
  read_rest n room used before lines done [] [] is up same h fits from =
      ap (read_all taken true start) (append-nil used) ∙ ended n room (so_far lines done 0) used from
      ∙ ap (λ (l : List (Option (List StepValue))). Ok (so_far lines l 0)) (sym (append-nil done))
  read_rest n room used before lines done [] (o ∷ os) is up same h fits from = absurd h
  read_rest n room used before lines done (e ∷ es) [] is up same h fits from = absurd h
  read_rest n room used before lines done (e ∷ es) (None ∷ os) is up same h fits from =
      read_rest n room used (before ++ e.line ∷ []) lines (done ++ None ∷ []) es os
      (is ∙ sym (append_assoc before (e.line ∷ []) (entry_lines es))) up
      (length-append done (None ∷ []) ∙ ap (λ (k : ℕ). k + 1) same ∙ sym (length-append before (e.line ∷ []))) h.1 fits
      (subst (λ (s : Records). GoesFrom taken start n room s used) (moved lines done None (length es)) from)
      ∙ ap (λ (l : List (Option (List StepValue))). Ok (so_far lines l 0)) (append_assoc done (None ∷ []) os)
  read_rest n room used before lines done (e ∷ es) (Some steps ∷ os) is up same h fits from =
      let text = record_text e.line steps in
      let rest = records_text es os in
      let size : length (records_text (e ∷ es) (Some steps ∷ os)) ≡ length text + 1 + length rest =
      length-append (text ++ 10 ∷ []) rest ∙ ap (λ (k : ℕ). k + length rest) (length-append text (10 ∷ [])) in
      let here : GoesFrom taken start n room (so_far (before ++ e.line ∷ entry_lines es) done (suc (length es)))
      used = subst (λ (l : List ℕ). GoesFrom taken start n room (so_far l done (suc (length es))) used) is from in
      let next =
      read_next n room used before (entry_lines es) done (length es) e steps (subst IsStrictlyIncreasing is up)
      same h.0 (omega (arith, fits, size)) here in
      let over : GoesFrom taken start (n + 1) (room - (length text + 1))
      (so_far lines (done ++ Some steps ∷ []) (length es)) (used ++ (text ++ 10 ∷ [])) =
      subst
      (λ (l : List ℕ). GoesFrom taken start (n + 1) (room - (length text + 1))
      (so_far l (done ++ Some steps ∷ []) (length es)) (used ++ (text ++ 10 ∷ []))) (sym is) next in
      ap (read_all taken true start) (sym (append_assoc used (text ++ 10 ∷ []) rest))
      ∙ read_rest (n + 1) (room - (length text + 1)) (used ++ (text ++ 10 ∷ [])) (before ++ e.line ∷ []) lines
      (done ++ Some steps ∷ []) es os (is ∙ sym (append_assoc before (e.line ∷ []) (entry_lines es))) up
      (length-append done (Some steps ∷ []) ∙ ap (λ (k : ℕ). k + 1) same ∙ sym (length-append before (e.line ∷ [])))
      h.1 (omega (arith, fits, size)) over
      ∙ ap (λ (l : List (Option (List StepValue))). Ok (so_far lines l 0)) (append_assoc done (Some steps ∷ []) os)

pub read_back : (t : TraceValue) (os : List (Option (List StepValue))) → IsStrictlyIncreasing (entry_lines t.entries)
    → AreWritten t.entries os → length (records_text t.entries os) ≤ 2 ^ 30
    → evidence_of t.entries true (records_text t.entries os) ≡ Ok os
read_back t os up h fits =
    let start = no_records t.entries in
    ap faulted
    (read_rest start 1 (2 ^ 30) [] [] (entry_lines t.entries) [] t.entries os refl up refl h fits
    (goes_first taken start))
    ∙ ap Ok (append-nil os)

pub are_records : (t : TraceValue) (text lines : List ℕ) → IsStrictlyIncreasing (entry_lines t.entries)
    → IsMadeSoFar t t.entries text lines → AreRecords t text lines
are_records t text lines up far = (
  far.given,
  far.made,
  far.is_text,
  far.are_lines,
  λ fits. subst (λ (l : List ℕ). evidence_of t.entries true l ≡ Ok far.given) (sym far.is_text)
      (read_back t far.given up far.written (subst (λ (l : List ℕ). length l ≤ 2 ^ 30) far.is_text fits)),
)
