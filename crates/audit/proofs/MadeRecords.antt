-- Records that are made for the entries of a trace, one after another.
use Rattle.std.proofs.Common.{◌≡◌, ℕ, suc, ◌+◌, ◌<◌, ◌≤◌, ◌^◌, List, [], ◌∷◌, ◌++◌, length, take, Option, None, Some, sym, ap, subst, ◌∙◌, arith, append_assoc, append-nil}
use Rattle.std.specs.Prelude.{slice_get, IfSome, ⊤}
use Rattle.std.proofs.Math.Seq.{take-length}
use Rattle.version_chains.proofs.NewestLemmas.{take-next}
use Rattle.trace_lines.specs.Values.{TraceValue, EntryValue}
use Rattle.evidence_check.specs.Reading.{fact_count}
use Rattle.evidence_check.specs.Steps.{StepValue}
use Rattle.record_text.specs.Record.{record_length}
use Rattle.record_text.specs.ReadBack.{IsTaken}
use Rattle.evidence_maker.specs.Made.{Settles}
use Rattle.evidence_maker.proofs.JudgedSteps.{judged_if_settles}
use Rattle.audit.specs.Made.{IsMade, AreMade, record_line, line_without, told_of_each, records_text, given_up_lines}

-- the record is a line of evidence that says these steps
pub record IsWritten (e : EntryValue) (steps : List StepValue) : Type 0 where
  pub line : e.line < 2 ^ 64
  pub taken : IsTaken e.line steps
  pub facts : fact_count steps ≤ 100000
  pub bytes : record_length e.line steps ≤ 2 ^ 20

abbrev pub IfWritten : EntryValue → Option (List StepValue) → Type 0
IfWritten e (Some steps) = IsWritten e steps
IfWritten e None = ⊤

-- of each entry that has a record
abbrev pub AreWritten : List EntryValue → List (Option (List StepValue)) → Type 0
AreWritten [] [] = ⊤
AreWritten (e ∷ es) (o ∷ os) = IfWritten e o × AreWritten es os
AreWritten _ _ = ⊥

-- what is made for some entries, its text, and the lines of those that have none
pub record IsMadeSoFar (t : TraceValue) (es : List EntryValue) (text lines : List ℕ) : Type 0 where
  pub given : List (Option (List StepValue))
  pub made : AreMade t es given
  pub written : AreWritten es given
  pub is_text : text ≡ records_text es given
  pub are_lines : lines ≡ given_up_lines es given

-- ---- one entry

pub made_by : (t : TraceValue) (e : EntryValue) (steps : List StepValue) → Settles t e steps
    → fact_count steps ≤ 100000 → record_length e.line steps ≤ 2 ^ 20 → IsMade t e (Some steps)
made_by t e steps settles few short =
    record { decided = judged_if_settles t e steps settles; facts = few; bytes = short }

written_if : (t : TraceValue) (e : EntryValue) (o : Option (List StepValue)) → IsMade t e o → e.line < 2 ^ 64
    → IfSome o (λ s. IsTaken e.line s) → IfWritten e o
written_if t e (Some steps) made fits taken =
    record { line = fits; taken = taken; facts = made.facts; bytes = made.bytes }
written_if t e None made fits taken = tt

-- ---- one entry more

pub made_more : (t : TraceValue) (es : List EntryValue) (os : List (Option (List StepValue))) (e : EntryValue)
    (o : Option (List StepValue)) → AreMade t es os → IsMade t e o
    → AreMade t (es ++ e ∷ []) (os ++ o ∷ [])
made_more t [] [] e o h m = (m, tt)
made_more t [] (p ∷ os) e o h m = absurd h
made_more t (d ∷ es) [] e o h m = absurd h
made_more t (d ∷ es) (p ∷ os) e o h m = (h.0, made_more t es os e o h.1 m)

written_more : (es : List EntryValue) (os : List (Option (List StepValue))) (e : EntryValue)
    (o : Option (List StepValue)) → AreWritten es os → IfWritten e o
    → AreWritten (es ++ e ∷ []) (os ++ o ∷ [])
written_more [] [] e o h w = (w, tt)
written_more [] (p ∷ os) e o h w = absurd h
written_more (d ∷ es) [] e o h w = absurd h
written_more (d ∷ es) (p ∷ os) e o h w = (h.0, written_more es os e o h.1 w)

told_more : (tell : ℕ → Option (List StepValue) → List ℕ) (es : List EntryValue) (os : List (Option (List StepValue)))
    (e : EntryValue) (o : Option (List StepValue)) → AreWritten es os
    → told_of_each tell (es ++ e ∷ []) (os ++ o ∷ []) ≡ told_of_each tell es os ++ tell e.line o
told_more tell [] [] e o h = append-nil (tell e.line o)
told_more tell [] (p ∷ os) e o h = absurd h
told_more tell (d ∷ es) [] e o h = absurd h
told_more tell (d ∷ es) (p ∷ os) e o h =
    ap (λ (l : List ℕ). tell d.line p ++ l) (told_more tell es os e o h.1)
    ∙ sym (append_assoc (tell d.line p) (told_of_each tell es os) (tell e.line o))

module _ (t : TraceValue) (text lines : List ℕ) where
  pub one_more : (i : ℕ) (e : EntryValue) (o : Option (List StepValue)) (now more : List ℕ)
      → slice_get t.entries i ≡ Some e → IsMadeSoFar t (take i t.entries) text lines
      → IsMade t e o → e.line < 2 ^ 64 → IfSome o (λ s. IsTaken e.line s) → now ≡ text ++ record_line e.line o
      → more ≡ lines ++ line_without e.line o
      → IsMadeSoFar t (take (i + 1) t.entries) now more
  one_more i e o now more at far made fits taken is are =
      let es = take i t.entries in
      let longer : IsMadeSoFar t (es ++ e ∷ []) now more = record {
        given = far.given ++ o ∷ [];
        made = made_more t es far.given e o far.made made;
        written = written_more es far.given e o far.written (written_if t e o made fits taken);
        is_text =
            is ∙ ap (λ (l : List ℕ). l ++ record_line e.line o) far.is_text
            ∙ sym (told_more record_line es far.given e o far.written);
        are_lines =
            are ∙ ap (λ (l : List ℕ). l ++ line_without e.line o) far.are_lines
            ∙ sym (told_more line_without es far.given e o far.written);
      } in
      let next : i + 1 ≡ suc i = omega arith in
      let all : take (i + 1) t.entries ≡ es ++ e ∷ [] =
      ap (λ (n : ℕ). take n t.entries) next ∙ take-next t.entries i e at in
      subst (λ (l : List EntryValue). IsMadeSoFar t l now more) (sym all) longer

  pub all_so_far : (i : ℕ) → i ≡ length t.entries → IsMadeSoFar t (take i t.entries) text lines
      → IsMadeSoFar t t.entries text lines
  all_so_far i e far =
      subst (λ (l : List EntryValue). IsMadeSoFar t l text lines)
      (ap (λ (n : ℕ). take n t.entries) e ∙ take-length t.entries) far
