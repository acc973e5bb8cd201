-- What holds of each finding on a trace, by what is found on tokens and what each entry's evidence finds.
use Rattle.std.proofs.Common.{◌≡◌, ℕ, suc, ◌+◌, List, [], ◌∷◌, ◌++◌, Bool, true, false, Option, None, Some, option_map, refl, subst, arith}
use Rattle.std.specs.Prelude.{All, IfSome, slice_get}
use Rattle.std.specs.List.{AllByRecursion}
use Rattle.std.proofs.lemmas.List.Elements.{All-nil, All-append}
use Rattle.trace_lines.specs.Values.{TraceValue, EntryValue}
use Rattle.evidence_check.specs.Evidences.{steps_of}
use Rattle.evidence_check.specs.Judged.{judged}
use Rattle.evidence_check.specs.Steps.{StepValue}
use Rattle.token_order.specs.Found.{order_of}
use Rattle.token_order.specs.declared.findings.OrderFindings.{OrderFindings}
use Rattle.findings.specs.Findings.{found_by, if_told, found_on_tokens, found_on, on_line, findings_from}
use Rattle.findings.specs.declared.finding.Finding.{Finding}
use Rattle.findings.specs.declared.finding.What.{What}
use Rattle.findings.specs.declared.finding.What.TheVariants.{Stale, OldToken, NotLatest, OpenSnapshot, WrongToken, UnknownVersion}
use Rattle.findings.proofs.WrongReplies.{all_on_line}

-- it holds of each thing that is found on tokens
pub record HoldsOfTokens (P : What → Type 0) : Type 0 where
  pub stale : P Stale
  pub old : (n : ℕ) → P (OldToken n)
  pub latest : (n : ℕ) → P (NotLatest n)
  pub opened : (n : ℕ) → P (OpenSnapshot n)
  pub token : P WrongToken
  pub version : P UnknownVersion

module _ (P : What → Type 0) where
  told : (what : What) (b : Bool) → P what → IfSome (if_told what b) P
  told what false h = tt
  told what true h = h

  mapped : (f : ℕ → What) (o : Option ℕ) → ((n : ℕ) → P (f n)) → IfSome (option_map f o) P
  mapped f None h = tt
  mapped f (Some n) h = h n

  found_of : (f : OrderFindings) (o : Option What) → HoldsOfTokens P → IfSome o P → AllByRecursion (λ x. IfSome x P) (found_on_tokens f ++ o ∷ [])
  found_of f o h by =
      let stale = told Stale f.stale h.stale in
      let old = mapped OldToken f.old_token h.old in
      let latest = mapped NotLatest f.not_latest h.latest in
      let opened = mapped OpenSnapshot f.open_snapshot h.opened in
      let token = told WrongToken f.wrong_token h.token in
      let version = told UnknownVersion f.unknown_version h.version in
      (stale, (old, (latest, (opened, (token, (version, (by, tt)))))))

pub each_finding : (P : ℕ → What → Type 0) (t : TraceValue) (evidence : List (Option (List StepValue))) (first : ℕ) (es : List EntryValue)
    → ((line : ℕ) → HoldsOfTokens (P line))
    → ((i : ℕ) (e : EntryValue) → slice_get es i ≡ Some e → IfSome (found_by (judged t e (steps_of evidence (first + i)))) (P e.line))
    → All (λ f. P f.line f.what) (findings_from t evidence first es)
each_finding P t evidence first [] tokens each = All-nil (λ (f : Finding). P f.line f.what)
each_finding P t evidence first (x ∷ es) tokens each =
    All-append (λ (f : Finding). P f.line f.what) (on_line x.line (found_on t evidence first x)) (findings_from t evidence (first + 1) es)
    (all_on_line (λ f. P f.line f.what) x.line (found_on t evidence first x)
    (found_of (P x.line) (order_of t first x) (found_by (judged t x (steps_of evidence first))) (tokens x.line) (at_place x (first + 0) first here (each 0 x refl))))
    (each_finding P t evidence (first + 1) es tokens (λ i e at. at_place e (first + suc i) (first + 1 + i) (next i) (each (suc i) e at)))
  where
    here : first + 0 ≡ first
    here = omega arith

    next : (i : ℕ) → first + suc i ≡ first + 1 + i
    next i = omega arith

    at_place : (e : EntryValue) (m n : ℕ) → m ≡ n → IfSome (found_by (judged t e (steps_of evidence m))) (P e.line) → IfSome (found_by (judged t e (steps_of evidence n))) (P e.line)
    at_place e m n same h = subst (λ (k : ℕ). IfSome (found_by (judged t e (steps_of evidence k))) (P e.line)) same h
