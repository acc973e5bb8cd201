-- On which steps it rests what is told, and steps that are put together.
use Rattle.std.proofs.Common.{◌≡◌, ℕ, zero, suc, ◌+◌, Bool, true, false, cond, eqb, List, [], ◌∷◌, ◌++◌, Option, Some, None, refl, sym, ◌∙◌, ap, arith}
use Rattle.std.specs.Prelude.{slice_get, option_map}
use Rattle.std.proofs.lemmas.Bool.{eq-eqb, eqb-true}
use Rattle.trace_lines.specs.Values.{EntryValue, TraceValue}
use Rattle.token_order.specs.Found.{open_snapshot, order_of}
use Rattle.token_order.specs.declared.findings.OrderFindings.{OrderFindings}
use Rattle.evidence_check.specs.Evidences.{steps_of}
use Rattle.evidence_check.specs.Judged.{judged}
use Rattle.evidence_check.specs.Steps.{StepValue}
use Rattle.findings.specs.Findings.{found_by, found_on, if_told, on_line}
use Rattle.findings.specs.declared.finding.Finding.{Finding}
use Rattle.findings.specs.declared.finding.What.{What}
use Rattle.findings.specs.declared.finding.What.TheVariants.{Stale, OldToken, NotLatest, OpenSnapshot, WrongToken, UnknownVersion}
use Rattle.follow_laws.specs.Told.{at_moments, moments, settling_line, told_from}

-- ---- what is told of an entry rests on its steps where it is settled then

module _ (test : Option ℕ → Bool) (t : TraceValue) (one other : List (Option (List StepValue))) where
  told_alike : (i : ℕ) (e : EntryValue) → (test (settling_line t e) ≡ true → steps_of one i ≡ steps_of other i)
      → on_line e.line (at_moments test (moments t e) (found_on t one i e))
      ≡ on_line e.line (at_moments test (moments t e) (found_on t other i e))
  told_alike i e same = ap rest (by_test (test (settling_line t e)) refl)
    where
      f : OrderFindings
      f = order_of t i e

      rest : Option What → List Finding
      rest o = on_line e.line (
          cond (test (Some e.line)) (if_told Stale f.stale) None
          ∷ cond (test (Some e.line)) (option_map OldToken f.old_token) None
          ∷ cond (test (Some e.line)) (option_map NotLatest f.not_latest) None
          ∷ cond (test (open_snapshot t e)) (option_map OpenSnapshot f.open_snapshot) None
          ∷ cond (test (Some e.line)) (if_told WrongToken f.wrong_token) None
          ∷ cond (test (Some e.line)) (if_told UnknownVersion f.unknown_version) None ∷ o ∷ []
          )

      by_test : (b : Bool) → test (settling_line t e) ≡ b
          → cond (test (settling_line t e)) (found_by (judged t e (steps_of one i))) None
          ≡ cond (test (settling_line t e)) (found_by (judged t e (steps_of other i))) None
      by_test true is = ap (λ (s : Option (List StepValue)). cond (test (settling_line t e)) (found_by (judged t e s)) None) (same is)
      by_test false is = ap (λ (b : Bool). cond b (found_by (judged t e (steps_of one i))) None) is
          ∙ sym (ap (λ (b : Bool). cond b (found_by (judged t e (steps_of other i))) None) is)

  pub told_by_steps : (i : ℕ) (es : List EntryValue) → ((j : ℕ) (e : EntryValue) → slice_get es j ≡ Some e
      → test (settling_line t e) ≡ true → steps_of one (i + j) ≡ steps_of other (i + j))
      → told_from test t one i es ≡ told_from test t other i es
  told_by_steps i [] same = refl
  told_by_steps i (e ∷ es) same =
      ap (λ (fs : List Finding). fs ++ told_from test t one (i + 1) es) (told_alike i e (λ at. at_place i (i + 0) (omega arith)
      (same 0 e refl at)))
      ∙ ap (λ (fs : List Finding). on_line e.line (at_moments test (moments t e) (found_on t other i e)) ++ fs)
      (told_by_steps (i + 1) es (λ j d there at. at_place (i + 1 + j) (i + suc j) (omega arith) (same (suc j) d there at)))
    where
      at_place : (k l : ℕ) → k ≡ l → steps_of one l ≡ steps_of other l → steps_of one k ≡ steps_of other k
      at_place k l same h = ap (steps_of one) same ∙ h ∙ sym (ap (steps_of other) same)

-- ---- for each entry its steps by its line, or others

-- the steps for the entry on a line
abbrev pub steps_on : List EntryValue → List (Option (List StepValue)) → ℕ → ℕ → Option (List StepValue)
steps_on [] evidence i line = None
steps_on (d ∷ ds) evidence i line = cond (eqb d.line line) (steps_of evidence i) (steps_on ds evidence (i + 1) line)

pub steps_there : (ds : List EntryValue) (evidence : List (Option (List StepValue))) (i line j : ℕ) (d : EntryValue)
    → slice_get ds j ≡ Some d → d.line ≡ line
    → ((k : ℕ) (x : EntryValue) → slice_get ds k ≡ Some x → x.line ≡ line → k ≡ j)
    → steps_on ds evidence i line ≡ steps_of evidence (i + j)
steps_there [] evidence i line j d at on alone = cc
steps_there (x ∷ ds) evidence i line zero d at on alone =
    let same : x ≡ d = cc in
    let here = ap (λ (y : EntryValue). y.line) same ∙ on in
    ap (λ (b : Bool). cond b (steps_of evidence i) (steps_on ds evidence (i + 1) line)) (eq-eqb x.line line here)
    ∙ ap (steps_of evidence) (let e : i ≡ i + 0 = omega arith in e)
steps_there (x ∷ ds) evidence i line (suc j) d at on alone =
    by_test (steps_there ds evidence (i + 1) line j d at on (λ k y there same. let next = alone (suc k) y there same in omega (arith, next)))
    (eqb x.line line) refl
  where
    by_test : steps_on ds evidence (i + 1) line ≡ steps_of evidence (i + 1 + j) → (b : Bool) → eqb x.line line ≡ b
        → steps_on (x ∷ ds) evidence i line ≡ steps_of evidence (i + suc j)
    by_test rest true is = absurd (let no = alone 0 x refl (eqb-true x.line line is) in omega (arith, no))
    by_test rest false is =
        ap (λ (b : Bool). cond b (steps_of evidence i) (steps_on ds evidence (i + 1) line)) is ∙ rest
        ∙ ap (steps_of evidence) (let e : i + 1 + j ≡ i + suc j = omega arith in e)

-- for entries from number i on, those by their lines where they pass a test, and else those that stand at their numbers
abbrev pub chosen : (EntryValue → Bool) → (ℕ → Option (List StepValue)) → List (Option (List StepValue)) → ℕ
    → List EntryValue → List (Option (List StepValue))
chosen test by_line others i [] = []
chosen test by_line others i (e ∷ es) =
    cond (test e) (by_line e.line) (steps_of others i) ∷ chosen test by_line others (i + 1) es

pub chosen_there : (test : EntryValue → Bool) (by_line : ℕ → Option (List StepValue)) (others : List (Option (List StepValue)))
    (i : ℕ) (es : List EntryValue) (j : ℕ) (e : EntryValue) → slice_get es j ≡ Some e
    → steps_of (chosen test by_line others i es) j ≡ cond (test e) (by_line e.line) (steps_of others (i + j))
chosen_there test by_line others i [] j e at = cc
chosen_there test by_line others i (x ∷ es) zero e at =
    let same : x ≡ e = cc in
    ap (λ (y : EntryValue). cond (test y) (by_line y.line) (steps_of others i)) same
    ∙ ap (λ (k : ℕ). cond (test e) (by_line e.line) (steps_of others k)) (let z : i ≡ i + 0 = omega arith in z)
chosen_there test by_line others i (x ∷ es) (suc j) e at =
    chosen_there test by_line others (i + 1) es j e at
    ∙ ap (λ (k : ℕ). cond (test e) (by_line e.line) (steps_of others k)) (let z : i + 1 + j ≡ i + suc j = omega arith in z)
