-- Of an entry that a log so far settles, nothing is told at further lines or at the end.
use Rattle.std.proofs.Common.{◌≡◌, ℕ, ◌≤◌, Bool, true, false, cond, List, [], ◌∷◌, Option, Some, None, refl, ◌∙◌, ap, arith}
use Rattle.std.specs.Prelude.{slice_get, option_map, IsSomeAnd}
use Rattle.trace_lines.specs.Values.{EntryValue, TraceValue}
use Rattle.token_order.specs.Found.{open_snapshot, order_of}
use Rattle.token_order.specs.declared.findings.OrderFindings.{OrderFindings}
use Rattle.evidence_check.specs.Evidences.{steps_of}
use Rattle.evidence_check.specs.Judged.{judged}
use Rattle.evidence_check.specs.Steps.{StepValue}
use Rattle.findings.specs.Findings.{found_by, found_on, if_told, on_line}
use Rattle.findings.specs.declared.finding.What.{What}
use Rattle.findings.specs.declared.finding.What.TheVariants.{Stale, OldToken, NotLatest, OpenSnapshot, WrongToken, UnknownVersion}
use Rattle.windows.specs.Growth.{IsSettled}
use Rattle.windows.proofs.SettledLemmas.{opened}
use Rattle.follow_laws.specs.Begun.{Begins}
use Rattle.follow_laws.specs.Told.{settling_line, moments, at_moments}
use Rattle.follow_laws.proofs.FirstLemmas.{first_law}
use Rattle.follow_laws.proofs.OnceLemmas.{opened_within, own_line}

-- a test that lets nothing be told at the lines of the log so far
abbrev pub IsLate : ℕ → (Option ℕ → Bool) → Type 0
IsLate n test = (m : ℕ) → m ≤ n → test (Some m) ≡ false

left_out : (test : Option ℕ → Bool) (m : Option ℕ) (o : Option What) → test m ≡ false → cond (test m) o None ≡ None
left_out test m o is = ap (λ (b : Bool). cond b o None) is

module _ {n : ℕ} (t u : TraceValue) (b : Begins n t u) (test : Option ℕ → Bool) (late : IsLate n test) (i : ℕ) (e : EntryValue) (at :
    slice_get t.entries i ≡ Some e) (settled : IsSettled t e) where
  own_late : test (Some e.line) ≡ false
  own_late =
      let own = own_line t b.first i e at in
      let within = b.goes.within in
      late e.line (omega (arith, own, within))

  open_late : cond (test (open_snapshot u e)) (option_map OpenSnapshot (open_snapshot u e)) None ≡ None
  open_late = ap (λ (o : Option ℕ). cond (test o) (option_map OpenSnapshot o) None) (opened t u b.goes b.first.rising b.whole.rising i e at settled)
      ∙ by_line (open_snapshot t e) refl
    where
      nothing : Option What
      nothing = None

      either : (x : Bool) → cond x nothing nothing ≡ nothing
      either true = refl
      either false = refl

      by_line : (o : Option ℕ) → open_snapshot t e ≡ o → cond (test o) (option_map OpenSnapshot o) None ≡ None
      by_line None is = either (test None)
      by_line (Some l) is =
          let lt = opened_within t b.first e (own_line t b.first i e at) l is in
          let within = b.goes.within in
          left_out test (Some l) (Some (OpenSnapshot l)) (late l (omega (arith, lt, within)))

  settling_late : test (settling_line u e) ≡ false
  settling_late = by_line (settling_line u e) ((first_law n t u b i e at).0 settled)
    where
      by_line : (o : Option ℕ) → IsSomeAnd o (λ m. m ≤ n) → test o ≡ false
      by_line None h = absurd h
      by_line (Some m) h = late m h

  pub silent : (evidence : List (Option (List StepValue)))
      → on_line e.line (at_moments test (moments u e) (found_on u evidence i e)) ≡ []
  silent evidence =
      let f : OrderFindings = order_of u i e in
      ap (on_line e.line) (λ k.
      left_out test (Some e.line) (if_told Stale f.stale) own_late k
      ∷ left_out test (Some e.line) (option_map OldToken f.old_token) own_late k
      ∷ left_out test (Some e.line) (option_map NotLatest f.not_latest) own_late k
      ∷ open_late k
      ∷ left_out test (Some e.line) (if_told WrongToken f.wrong_token) own_late k
      ∷ left_out test (Some e.line) (if_told UnknownVersion f.unknown_version) own_late k
      ∷ left_out test (settling_line u e) (found_by (judged u e (steps_of evidence i))) settling_late k ∷ [])
